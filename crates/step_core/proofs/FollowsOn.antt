-- A core whose session made its exchange follows the run under way after that session's step.
use Rattle.std.proofs.Common.{◌≡◌, ◌∙◌, ap, refl, sym, subst, ℕ, suc, Bool, true, List, [], ◌∷◌, ◌++◌, map, set, Option, Some, None}
use Rattle.std.proofs.lemmas.List.{map-set}
use Rattle.mope_base.specs.Lists.{Each}
use Rattle.mope_base.specs.declared.numbers.SessionNo.{SessionNo}
use Rattle.versions.specs.Databases.{Database}
use Rattle.versions.specs.Turns.{replay}
use Rattle.versions.specs.declared.turn.Turn.{Turn}
use Rattle.walk_proto.specs.declared.messages.Exchange.{Exchange}
use Rattle.walk_proto.specs.declared.messages.Reply.{Reply}
use Rattle.walk_proto.specs.declared.messages.Request.{Request}
use Rattle.workload.specs.declared.script.Workload.{Workload}
use Rattle.workload.specs.Validity.{IsValid}
use Rattle.proxy.specs.declared.outcomes.Settings.{Settings}
use Rattle.proxy.specs.Allowed.{allowed}
use Rattle.proxy.specs.Client.{Setting, wants, hears}
use Rattle.proxy.specs.Party.{Party, Phase, fresh, waits, finished, stuck, spent, setting_of, noted, noted_all, phase_for, going_on, heard_if, told_by, told}
use Rattle.server_conn.specs.Connections.{Conn}
use Rattle.server_conn.specs.Handling.{Seen, running}
use Rattle.transaction_laws.specs.Readable.{IsReadable}
use Rattle.transaction_laws.specs.Walks.{exchanged}
use Rattle.transaction_laws.proofs.Reading.{allowed_is_readable}
use Rattle.transaction_laws.proofs.Statements.{each-append}
use Rattle.run_laws.specs.Worlds.{RunSetting, session_setting}
use Rattle.run_laws.specs.WorldRuns.{session_at}
use Rattle.run_laws.specs.Schedules.{Underway, due_at, stepped}
use Rattle.run_laws.specs.Seats.{Seat, seat_of, seat_at, with_seat}
use Rattle.run_laws.specs.SeatLaws.{IsSession, IsUpheld}
use Rattle.run_laws.specs.SteppingLaws.{HasSaid, seat_heard}
use Rattle.run_laws.proofs.NextSteps.{others_have_said}
use Rattle.step_core.specs.Cores.{Sitting, Cored, run_setting, seat_in, HasMade, HaveMade, Follows}
use Rattle.step_core.specs.Outcomes.{Outcome, outcome}
use Rattle.step_core.specs.Sittings.{Went, StandsAt}
use Rattle.step_core.proofs.Goings.{Goes, goes}
use Rattle.step_core.proofs.Asking.{Asked, asked}
use Rattle.step_core.proofs.Opened.{wanted-there}
use Rattle.step_core.proofs.ReadableOn.{readable-on}
use Rattle.step_core.proofs.SessionLists.{numbered, stands-within, seat-there, session-there, MadeBy, made-by, StaysMade, one-made}

-- ---- the request that a proxy has sent

sent_in : Phase → Option Request
sent_in fresh = None
sent_in (waits r) = Some r
sent_in finished = None
sent_in (stuck want got) = None
sent_in spent = None

sent-for : (o : Option Request) → sent_in (phase_for o) ≡ o
unfolding sent_in phase_for
sent-for None = refl
sent-for (Some r) = refl

wants-sent : (o : Option Request) (p : Phase) (r : Request) → p ≡ phase_for o → p ≡ waits r → o ≡ Some r
unfolding sent_in
wants-sent o p r for_it waits_it = sym (sent-for o) ∙ ap sent_in (sym for_it ∙ waits_it)

came_or : Outcome → Option Outcome → Outcome
came_or other None = other
came_or other (Some came) = came

same-came : (o : Option Outcome) (x y : Outcome) → o ≡ Some x → o ≡ Some y → x ≡ y
unfolding came_or
same-came o x y one other = ap (λ (z : Option Outcome). came_or x z) (sym one ∙ other)

-- ---- what comes of it

-- the client that a waiting session has, wants its request; what comes of it is the outcome, and is the next step of the run
pub record Comes (s : RunSetting) (w : Workload) (u : Underway) (d : Database) (seats : List Seat) (n : SessionNo) (x : Sitting) (r : Request) (came : Outcome) : Type 0 where
  pub allows : allowed x.party.client came.reply ≡ true
  pub turns : (stepped s u n).run.turns ≡ u.run.turns ++ came.turns
  pub said : (before : List Exchange) → HasSaid u n before → HasSaid (stepped s u n) n (before ++ exchanged r came.reply ∷ [])
  pub upheld : IsUpheld s w (stepped s u n) (replay came.turns d) (with_seat seats n.0 (seat_heard s n came.reply came.conn (seat_in x)))

comes-by : (s : RunSetting) (w : Workload) (u : Underway) (d : Database) (seats : List Seat) (n : SessionNo) (x : Sitting) (r : Request) → seat_at seats n.0 ≡ seat_in x → (g : Goes s w u d seats n r) → Comes s w u d seats n x r g.came
unfolding seat_in
comes-by s w u d seats n x r same g = record {
  allows = ap (λ (seat : Seat). allowed seat.client g.came.reply) (sym same) ∙ g.allows;
  turns = g.turns;
  said = g.said;
  upheld = subst (λ (seat : Seat). IsUpheld s w (stepped s u n) (replay g.came.turns d) (with_seat seats n.0 (seat_heard s n g.came.reply g.came.conn seat))) same g.upheld;
}

wanted-by : (settings : Settings) (w : Workload) (u : Underway) (c : Cored) (i : ℕ) (x : Sitting) (r : Request) → Follows settings w u c → StandsAt i x c.sittings → x.party.phase ≡ waits r
    → wants (session_setting (run_setting settings) (numbered (suc i))) (seat_at (map seat_in c.sittings) (suc i)).client ≡ Some r
wanted-by settings w u c i x r follows there waits_it =
    wanted-there settings w u c i x (Some r) follows there (wants-sent (wants x.party.setting x.party.client) x.party.phase r (made-by settings w u c i x follows there).has.phase waits_it)

pub comes : (settings : Settings) (w : Workload) (u : Underway) (c : Cored) (i : ℕ) (x : Sitting) (r : Request) (came : Outcome) → IsValid w → Follows settings w u c → StandsAt i x c.sittings → x.party.phase ≡ waits r → outcome (numbered (suc i)) c.state.current r x.conn.conn ≡ Some came
    → Comes (run_setting settings) w u c.state.current (map seat_in c.sittings) (numbered (suc i)) x r came
unfolding seat_in
comes settings w u c i x r came valid follows there waits_it is =
    let s : RunSetting = run_setting settings in
    let n : SessionNo = numbered (suc i) in
    let seats : List Seat = map seat_in c.sittings in
    let same : seat_at seats (suc i) ≡ seat_in x = seat-there i x c.sittings there in
    let g : Goes s w u c.state.current seats n r = goes s w u c.state.current seats n valid follows.upheld (session-there settings w u c i x follows there) r (wanted-by settings w u c i x r follows there waits_it) in
    let came_it : outcome n c.state.current r x.conn.conn ≡ Some g.came = ap (λ (seat : Seat). outcome n c.state.current r seat.conn) (sym same) ∙ g.is in
    subst (λ (o : Outcome). Comes s w u c.state.current seats n x r o) (same-came (outcome n c.state.current r x.conn.conn) g.came came came_it is) (comes-by s w u c.state.current seats n x r same g)

-- ---- the session after it

noted-more : (keep : Bool) (log made : List Exchange) (e : Exchange) → noted_all keep log (made ++ e ∷ []) ≡ noted keep (noted_all keep log made) e
unfolding noted_all
noted-more keep log [] e = refl
noted-more keep log (one ∷ made) e = noted-more keep (noted keep log one) made e

-- a proxy that has heard a reply
heard_by : Party → Request → Reply → Party
heard_by p r got = going_on (record p {
  client = hears p.setting p.client got;
  log = noted p.keep p.log (record { request = r; reply = got });
})

told-heard : (p : Party) (r : Request) (got : Reply) → p.phase ≡ waits r → allowed p.client got ≡ true → told (Some got) p ≡ heard_by p r got
unfolding told told_by heard_if heard_by
told-heard p r got waits_it allows =
    ap (λ (phase : Phase). told_by phase (Some got) p) waits_it ∙ ap (λ (b : Bool). heard_if b r got p) allows

has-made : (settings : Settings) (n : SessionNo) (made : List Exchange) (x y : Sitting) (r : Request) (got : Reply) (k : Conn) → HasMade settings n made x → IsReadable (exchanged r got) → y.party ≡ heard_by x.party r got → y.conn ≡ running k
    → HasMade settings n (made ++ exchanged r got ∷ []) y
unfolding heard_by going_on running exchanged Each
has-made settings n made x y r got k has readable party conn = record {
  setting = ap (λ (p : Party). p.setting) party ∙ has.setting;
  keep = ap (λ (p : Party). p.keep) party ∙ has.keep;
  log =
      ap (λ (p : Party). p.log) party
      ∙ ap (λ (keep : Bool). noted keep x.party.log (exchanged r got)) has.keep
      ∙ ap (λ (log : List Exchange). noted settings.keep log (exchanged r got)) has.log
      ∙ sym (noted-more settings.keep [] made (exchanged r got));
  phase =
      ap (λ (p : Party). p.phase) party
      ∙ ap (λ (p : Party). phase_for (wants p.setting p.client)) (sym party);
  fresh = ap (λ (seen : Seen). seen.spent) conn;
  readable = each-append IsReadable made (exchanged r got ∷ []) has.readable (readable, tt);
}

seat-heard : (settings : Settings) (n : SessionNo) (x y : Sitting) (r : Request) (got : Reply) (k : Conn) → x.party.setting ≡ setting_of settings n → y.party ≡ heard_by x.party r got → y.conn ≡ running k
    → seat_in y ≡ seat_heard (run_setting settings) n got k (seat_in x)
unfolding seat_in seat_heard seat_of heard_by going_on running setting_of session_setting run_setting
seat-heard settings n x y r got k setting party conn =
    ap (λ (p : Party). seat_of p.client y.conn.conn) party
    ∙ ap (λ (seen : Seen). seat_of (hears x.party.setting x.party.client got) seen.conn) conn
    ∙ ap (λ (one : Setting). seat_of (hears one x.party.client got) k) setting

-- ---- all sessions after it

said-own : (u : Underway) (n : SessionNo) (made : List Exchange) → (session_at u.run.sessions n.0).log ≡ made ++ due_at u.due n.0 → HasSaid u n made
said-own u n made log = record { whole = sym log }

stays-made : (s : RunSetting) (u : Underway) (n : SessionNo) (m : ℕ) → (m ≡ n.0 → ⊥) → StaysMade u (stepped s u n) m
unfolding StaysMade
stays-made s u n m apart made log = sym (others_have_said s u n (numbered m) made apart (said-own u (numbered m) made log)).whole

made-next : (settings : Settings) (w : Workload) (u : Underway) (c : Cored) (i : ℕ) (x y : Sitting) (r : Request) (came : Outcome) → Follows settings w u c → StandsAt i x c.sittings → Comes (run_setting settings) w u c.state.current (map seat_in c.sittings) (numbered (suc i)) x r came
    → IsReadable (exchanged r came.reply) → y.party ≡ heard_by x.party r came.reply → y.conn ≡ running came.conn → MadeBy settings (stepped (run_setting settings) u (numbered (suc i))) (suc i) y
made-next settings w u c i x y r came follows there goes_on readable party conn =
    let n : SessionNo = numbered (suc i) in
    let by : MadeBy settings u (suc i) x = made-by settings w u c i x follows there in
    record {
      made = by.made ++ exchanged r came.reply ∷ [];
      log = sym (goes_on.said by.made (said-own u n by.made by.log)).whole;
      has = has-made settings n by.made x y r came.reply came.conn by.has readable party conn;
    }

pub follows-on : (settings : Settings) (w : Workload) (u : Underway) (c d : Cored) (i : ℕ) (x y : Sitting) (r : Request) (came : Outcome) → IsValid w → Follows settings w u c → StandsAt i x c.sittings → x.party.phase ≡ waits r → outcome (record { 0 = suc i }) c.state.current r x.conn.conn ≡ Some came
    → Went c.state d.state x y came → d.sittings ≡ set c.sittings i y → Follows settings w (stepped (run_setting settings) u (record { 0 = suc i })) d
unfolding with_seat exchanged
follows-on settings w u c d i x y r came valid follows there waits_it is went sittings =
    let s : RunSetting = run_setting settings in
    let n : SessionNo = numbered (suc i) in
    let v : Underway = stepped s u n in
    let seats : List Seat = map seat_in c.sittings in
    let known : IsSession w n = session-there settings w u c i x follows there in
    let by : MadeBy settings u (suc i) x = made-by settings w u c i x follows there in
    let goes_on : Comes s w u c.state.current seats n x r came = comes settings w u c i x r came valid follows there waits_it is in
    let asks : Asked c.state (seat_at seats (suc i)) r = asked settings w u c n valid follows known r (wanted-by settings w u c i x r follows there waits_it) in
    let readable : IsReadable (exchanged r came.reply) = record { request = asks.readable; reply = allowed_is_readable x.party.client came.reply goes_on.allows } in
    let party : y.party ≡ heard_by x.party r came.reply = went.party ∙ told-heard x.party r came.reply waits_it goes_on.allows in
    let next : map seat_in d.sittings ≡ with_seat seats (suc i) (seat_heard s n came.reply came.conn (seat_in x)) =
    ap (λ (l : List Sitting). map seat_in l) sittings
    ∙ map-set seat_in c.sittings i y
    ∙ ap (λ (seat : Seat). set seats i seat) (seat-heard settings n x y r came.reply came.conn by.has.setting party went.conn) in
    record {
      first = went.first ∙ follows.first;
      turns = went.turns ∙ ap (λ (l : List Turn). l ++ came.turns) follows.turns ∙ sym goes_on.turns;
      upheld =
          subst (λ (base : Database). IsUpheld s w v base (map seat_in d.sittings)) (sym went.current)
          (subst (λ (l : List Seat). IsUpheld s w v (replay came.turns c.state.current) l) (sym next) goes_on.upheld);
      made =
          subst (λ (l : List Sitting). HaveMade settings v 1 l) (sym sittings)
          (one-made settings u v i y c.sittings (stands-within i x c.sittings there) (λ m apart. stays-made s u n m apart)
          (made-next settings w u c i x y r came follows there goes_on readable party went.conn) follows.made);
      readable = readable-on s w u c.state.current seats n valid follows.upheld known follows.readable;
    }
