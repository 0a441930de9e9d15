-- A core before its first exchange follows the run before its first entry.
use Rattle.std.proofs.Common.{◌≡◌, ◌∙◌, ap, refl, sym, subst, ℕ, suc, List, [], ◌∷◌, map}
use Rattle.mope_base.specs.Lists.{Each}
use Rattle.mope_base.specs.declared.numbers.SessionNo.{SessionNo}
use Rattle.versions.specs.Databases.{Database}
use Rattle.walk_proto.specs.declared.messages.Exchange.{Exchange}
use Rattle.workload.specs.declared.script.Piece.{Piece}
use Rattle.workload.specs.declared.script.Workload.{Workload}
use Rattle.workload.specs.Validity.{IsValid}
use Rattle.proxy.specs.declared.outcomes.Settings.{Settings}
use Rattle.proxy.specs.Party.{party_of, told, told_by, going_on, noted_all}
use Rattle.server_conn.specs.Handling.{running}
use Rattle.transaction_laws.specs.Readable.{IsReadable}
use Rattle.run_laws.specs.Worlds.{RunSetting, first_version}
use Rattle.run_laws.specs.WorldRuns.{Session, new_session, first_run}
use Rattle.run_laws.specs.Schedules.{Underway, first_underway}
use Rattle.run_laws.specs.Seats.{Seat, seat_of, first_seat}
use Rattle.run_laws.specs.SeatLaws.{IsUpheld}
use Rattle.run_laws.proofs.Upholding.{first-due, session-first, start_is_upheld}
use Rattle.step_core.specs.Cores.{Sitting, Cored, run_setting, seat_in, HasMade, HaveMade, Follows}
use Rattle.step_core.specs.Sittings.{first_sitting, first_sittings}

first-seats : (settings : Settings) (number : ℕ) (scripts : List (List Piece)) → map seat_in (first_sittings settings number scripts) ≡ map first_seat scripts
unfolding first_sittings first_sitting seat_in first_seat seat_of party_of told told_by going_on running
first-seats settings number [] = refl
first-seats settings number (script ∷ scripts) = ap (λ (seats : List Seat). first_seat script ∷ seats) (first-seats settings (suc number) scripts)

made-none : (settings : Settings) (n : SessionNo) (script : List Piece) → HasMade settings n [] (first_sitting settings n script)
unfolding first_sitting party_of told told_by going_on running noted_all Each
made-none settings n script = record { setting = refl; keep = refl; log = refl; phase = refl; fresh = refl; readable = tt }

none-made : (settings : Settings) (w : Workload) (number : ℕ) (scripts : List (List Piece)) → HaveMade settings (first_underway (run_setting settings) w) number (first_sittings settings number scripts)
unfolding HaveMade first_sittings first_underway first_run new_session
none-made settings w number [] = tt
none-made settings w number (script ∷ scripts) = (
  ([], ap (λ (x : Session). x.log) (session-first w.sessions number) ∙ sym (first-due w.sessions number), made-none settings (record { 0 = number }) script),
  none-made settings w (suc number) scripts,
)

pub start-follows : (settings : Settings) (w : Workload) (c : Cored) → IsValid w → c.state.first ≡ first_version (run_setting settings) w → c.state.turns ≡ [] → c.state.current ≡ c.state.first → c.sittings ≡ first_sittings settings 1 w.sessions → Follows settings w (first_underway (run_setting settings) w) c
unfolding first_underway first_run Each
start-follows settings w c valid first turns current sittings =
    let s : RunSetting = run_setting settings in
    let u : Underway = first_underway s w in
    let seats : map seat_in c.sittings ≡ map first_seat w.sessions = ap (λ (l : List Sitting). map seat_in l) sittings ∙ first-seats settings 1 w.sessions in
    record {
      first = first;
      turns = turns;
      upheld =
          subst (λ (d : Database). IsUpheld s w u d (map seat_in c.sittings)) (sym (current ∙ first))
          (subst (λ (l : List Seat). IsUpheld s w u (first_version s w) l) (sym seats) (start_is_upheld s w));
      made = subst (λ (l : List Sitting). HaveMade settings u 1 l) (sym sittings) (none-made settings w 1 w.sessions);
      readable = λ n known. subst (λ (l : List Exchange). Each IsReadable l) (sym (first-due w.sessions n.0)) tt;
    }
