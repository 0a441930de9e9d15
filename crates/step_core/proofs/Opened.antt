-- Each session of a core that follows a run of a valid workload has finished, or its request can be sent.
use Rattle.std.proofs.Common.{◌≡◌, ◌∙◌, ap, refl, sym, subst, ℕ, suc, Bool, true, map, Option, Some, None}
use Rattle.walk_proto.specs.declared.messages.Request.{Request}
use Rattle.workload.specs.declared.script.Workload.{Workload}
use Rattle.workload.specs.Validity.{IsValid}
use Rattle.proxy.specs.declared.outcomes.Settings.{Settings}
use Rattle.proxy.specs.Allowed.{allowed}
use Rattle.proxy.specs.Client.{Setting, wants}
use Rattle.proxy.specs.Party.{Phase, setting_of, phase_for}
use Rattle.server_conn.specs.Handling.{Seen, running}
use Rattle.server_conn.specs.Serving.{serve}
use Rattle.transaction_laws.proofs.Reading.{allowed_is_readable}
use Rattle.run_laws.specs.Worlds.{RunSetting, session_setting}
use Rattle.run_laws.specs.Schedules.{Underway}
use Rattle.run_laws.specs.Seats.{Seat, seat_at}
use Rattle.run_laws.specs.SeatLaws.{IsSession}
use Rattle.step_core.specs.Cores.{Sitting, Cored, run_setting, seat_in, Follows}
use Rattle.step_core.specs.Outcomes.{outcome}
use Rattle.step_core.specs.Sittings.{AsksOn, CanGo, IsOpenBy, IsOpen, StandsAt}
use Rattle.step_core.proofs.Goings.{Goes, goes}
use Rattle.step_core.proofs.Asking.{Asked, asked}
use Rattle.step_core.proofs.SessionLists.{numbered, seat-there, session-there, MadeBy, made-by}

-- what a session's client wants, with its proxy's setting or with the run's
pub wanted-there : (settings : Settings) (w : Workload) (u : Underway) (c : Cored) (i : ℕ) (x : Sitting) (o : Option Request) → Follows settings w u c → StandsAt i x c.sittings → wants x.party.setting x.party.client ≡ o
    → wants (session_setting (run_setting settings) (numbered (suc i))) (seat_at (map seat_in c.sittings) (suc i)).client ≡ o
unfolding setting_of session_setting run_setting seat_in
wanted-there settings w u c i x o follows there wanted =
    ap (λ (seat : Seat). wants (setting_of settings (numbered (suc i))) seat.client) (seat-there i x c.sittings there)
    ∙ ap (λ (one : Setting). wants one x.party.client) (sym (made-by settings w u c i x follows there).has.setting)
    ∙ wanted

can-go : (settings : Settings) (w : Workload) (u : Underway) (c : Cored) (i : ℕ) (x : Sitting) (r : Request) → IsValid w → Follows settings w u c → StandsAt i x c.sittings
    → (g : Goes (run_setting settings) w u c.state.current (map seat_in c.sittings) (numbered (suc i)) r) → Asked c.state (seat_at (map seat_in c.sittings) (suc i)) r → CanGo (numbered (suc i)) c.state x r g.came
unfolding seat_in
can-go settings w u c i x r valid follows there g asks =
    let same : seat_at (map seat_in c.sittings) (suc i) ≡ seat_in x = seat-there i x c.sittings there in
    let allows : allowed x.party.client g.came.reply ≡ true = ap (λ (seat : Seat). allowed seat.client g.came.reply) (sym same) ∙ g.allows in
    record {
      readable = asks.readable;
      comes = ap (λ (seat : Seat). outcome (numbered (suc i)) c.state.current r seat.conn) (sym same) ∙ g.is;
      answer = allowed_is_readable x.party.client g.came.reply allows;
      allows = allows;
      asks = subst (λ (seat : Seat). AsksOn c.state (serve r seat.conn).served (serve r seat.conn).conn) same asks.asks;
    }

open-by : (settings : Settings) (w : Workload) (u : Underway) (c : Cored) (i : ℕ) (x : Sitting) (o : Option Request) → IsValid w → Follows settings w u c → StandsAt i x c.sittings → wants x.party.setting x.party.client ≡ o
    → IsOpenBy (phase_for o) (numbered (suc i)) c.state x
unfolding IsOpenBy phase_for
open-by settings w u c i x None valid follows there wanted = tt
open-by settings w u c i x (Some r) valid follows there wanted =
    let s : RunSetting = run_setting settings in
    let known : IsSession w (numbered (suc i)) = session-there settings w u c i x follows there in
    let wants_it = wanted-there settings w u c i x (Some r) follows there wanted in
    let g : Goes s w u c.state.current (map seat_in c.sittings) (numbered (suc i)) r = goes s w u c.state.current (map seat_in c.sittings) (numbered (suc i)) valid follows.upheld known r wants_it in
    (g.came, can-go settings w u c i x r valid follows there g (asked settings w u c (numbered (suc i)) valid follows known r wants_it))

pub open-of : (settings : Settings) (w : Workload) (u : Underway) (c : Cored) (i : ℕ) (x : Sitting) → IsValid w → Follows settings w u c → StandsAt i x c.sittings → IsOpen (record { 0 = suc i }) c.state x
unfolding running
open-of settings w u c i x valid follows there =
    let by : MadeBy settings u (suc i) x = made-by settings w u c i x follows there in (
      subst (λ (p : Phase). IsOpenBy p (numbered (suc i)) c.state x) (sym by.has.phase)
          (open-by settings w u c i x (wants x.party.setting x.party.client) valid follows there refl),
      ap (λ (b : Bool). let k : Seen = record { conn = x.conn.conn; spent = b } in k) by.has.fresh,
    )
