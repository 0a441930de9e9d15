-- The request of a session of a run under way can be sent: some bytes give it, and its connection asks for a turn that can be taken.
use Rattle.std.proofs.Common.{◌≡◌, refl, sym, subst, true, List, [], ◌∷◌, map, Some}
use Rattle.mope_base.specs.Lists.{Each}
use Rattle.mope_base.specs.declared.numbers.SessionNo.{SessionNo}
use Rattle.versions.specs.Databases.{Database}
use Rattle.versions.specs.declared.turn.Turn.{Turn}
use Rattle.walk_proto.specs.Rules.{IsRequest}
use Rattle.walk_proto.specs.declared.messages.Exchange.{Exchange}
use Rattle.walk_proto.specs.declared.messages.Request.{Request}
use Rattle.walk_proto.specs.declared.messages.Request.TheVariants as request
use Rattle.workload.specs.declared.script.Workload.{Workload}
use Rattle.workload.specs.Run.{Position, ready, committing, installing, position_at}
use Rattle.workload.specs.Validity.{IsValid}
use Rattle.proxy.specs.declared.outcomes.Settings.{Settings}
use Rattle.proxy.specs.Client.{wants}
use Rattle.server_conn.specs.Connections.{begins, awaits, commit, install, held_on, Served, wants_begin, wants_commit, wants_install, Step}
use Rattle.server_conn.specs.Serving.{serve}
use Rattle.transaction_laws.specs.Readable.{IsReadable}
use Rattle.txn_core.specs.Courses.{Course, IsPast}
use Rattle.run_laws.specs.Worlds.{RunSetting, session_setting, first_version}
use Rattle.run_laws.specs.Schedules.{Underway, due_at}
use Rattle.run_laws.specs.Seats.{Seat, seat_at, IsEarlier}
use Rattle.run_laws.specs.SeatLaws.{IsSession}
use Rattle.run_laws.specs.SteppingLaws.{NextBy}
use Rattle.run_laws.proofs.PaceOfRun.{steps_uphold}
use Rattle.step_core.specs.Cores.{Cored, run_setting, seat_in, Follows}
use Rattle.step_core.specs.Sittings.{AsksOn}
use Rattle.step_core.proofs.Goings.{same-wanted, never}

pub record Asked (c : Course) (seat : Seat) (r : Request) : Type 0 where
  pub readable : IsRequest r
  pub asks : AsksOn c (serve r seat.conn).served (serve r seat.conn).conn

-- a version that turns of the run led to was the current one at some time
is-past : (c : Course) (first : Database) (turns : List Turn) (base : Database) → c.first ≡ first → c.turns ≡ turns → IsEarlier first turns base → IsPast c base
is-past c first turns base from same earlier =
    let from_own : IsEarlier c.first turns base = subst (λ (d : Database). IsEarlier d turns base) (sym from) earlier in
    let own : IsEarlier c.first c.turns base = subst (λ (l : List Turn). IsEarlier c.first l base) (sym same) from_own in
    record { taken = own.taken; within = own.within; leads = own.leads }

asks-by : (c : Course) (step other : Step) → step ≡ other → AsksOn c other.served other.conn → AsksOn c step.served step.conn
asks-by c step other same asks = subst (λ (x : Step). AsksOn c x.served x.conn) (sym same) asks

asked-by : (s : RunSetting) (w : Workload) (u : Underway) (c : Course) (seats : List Seat) (n : SessionNo) (log : List Exchange) (p : Position) → c.first ≡ first_version s w → c.turns ≡ u.run.turns → Each IsReadable log → NextBy s w u c.current seats n log p
    → (r : Request) → wants (session_setting s n) (seat_at seats n.0).client ≡ Some r → Asked c (seat_at seats n.0) r
unfolding NextBy Each AsksOn held_on
asked-by s w u c seats n (e ∷ log) p first turns readable next r wanted =
    subst (Asked c (seat_at seats n.0)) (same-wanted (wants (session_setting s n) (seat_at seats n.0).client) e.request r next.wanted wanted)
    (record {
      readable = readable.0.request;
      asks = subst (λ (x : Served). AsksOn c x (serve e.request (seat_at seats n.0).conn).conn) (sym next.answered) tt;
    })
asked-by s w u c seats n [] (ready place []) first turns readable next r wanted = never (wants (session_setting s n) (seat_at seats n.0).client) r next.ended wanted
asked-by s w u c seats n [] (ready place (p ∷ rest)) first turns readable next r wanted =
    subst (Asked c (seat_at seats n.0)) (same-wanted (wants (session_setting s n) (seat_at seats n.0).client) request.Begin r next.meets.wanted wanted)
    (record { readable = tt; asks = asks-by c (serve request.Begin (seat_at seats n.0).conn) (record { served = wants_begin; conn = begins }) next.meets.asked refl })
asked-by s w u c seats n [] (committing place base work rest) first turns readable next r wanted =
    subst (Asked c (seat_at seats n.0)) (same-wanted (wants (session_setting s n) (seat_at seats n.0).client) (request.End true) r next.takes.meets.wanted wanted)
    (record {
      readable = tt;
      asks =
          asks-by c (serve (request.End true) (seat_at seats n.0).conn) (record { served = wants_commit; conn = awaits next.held commit }) next.takes.meets.asked
          (next.held, refl, is-past c (first_version s w) u.run.turns next.held.base first turns next.earlier);
    })
asked-by s w u c seats n [] (installing place base t column rest) first turns readable next r wanted =
    subst (Asked c (seat_at seats n.0)) (same-wanted (wants (session_setting s n) (seat_at seats n.0).client) (request.Rebuild t column) r next.takes.meets.wanted wanted)
    (record {
      readable = tt;
      asks =
          asks-by c (serve (request.Rebuild t column) (seat_at seats n.0).conn) (record { served = wants_install t column; conn = awaits (held_on next.base) (install t column) }) next.takes.meets.asked
          (held_on next.base, refl, is-past c (first_version s w) u.run.turns next.base first turns next.earlier);
    })

-- of what the client of a session wants
pub asked : (settings : Settings) (w : Workload) (u : Underway) (c : Cored) (n : SessionNo) → IsValid w → Follows settings w u c → IsSession w n
    → (r : Request) → wants (session_setting (run_setting settings) n) (seat_at (map seat_in c.sittings) n.0).client ≡ Some r → Asked c.state (seat_at (map seat_in c.sittings) n.0) r
asked settings w u c n valid follows known r wanted =
    asked-by (run_setting settings) w u c.state (map seat_in c.sittings) n (due_at u.due n.0) (position_at u.run.plain.positions n.0) follows.first follows.turns (follows.readable n known)
    (steps_uphold (run_setting settings) w u c.state.current (map seat_in c.sittings) n valid follows.upheld known) r wanted
