-- What a watch is shown of a run: each exchange with its session, as the connection's receipt. The definition is our own.
use Rattle.std.specs.Prelude.{◌≡◌, ℕ, Bool, true, false, eqb, List, [], ◌∷◌, ◌++◌, map, Some}
use Rattle.mope_base.specs.declared.numbers.SessionNo.{SessionNo}
use Rattle.server_conn.specs.declared.receipt.Receipt.{Receipt}
use Rattle.server_conn.specs.Handling.{receipt_for}
use Rattle.walk_proto.specs.declared.messages.Exchange.{Exchange}
use Rattle.workload.specs.declared.script.Workload.{Workload}
use Rattle.run_laws.specs.WorldRuns.{WorldRun, session_at}
use Rattle.run_laws.specs.Schedules.{Underway}
use Rattle.run_laws.specs.SeatLaws.{IsSession}
use Rattle.run_laws.specs.SteppingLaws.{HasSaid}

-- an exchange of a session, as a watch is shown it
unfoldable pub shown_as : SessionNo × Exchange → SessionNo × Receipt
shown_as x = (x.0, receipt_for (Some x.1.request) x.1.reply)

unfoldable pub own_exchange : Bool → Exchange → List Exchange → List Exchange
own_exchange true e said = e ∷ said
own_exchange false e said = said

-- the exchanges of one session among those of all, in order
unfoldable pub said_by : ℕ → List (SessionNo × Exchange) → List Exchange
said_by n [] = []
said_by n (x ∷ shown) = own_exchange (eqb x.0.0 n) x.1 (said_by n shown)

-- these are the exchanges that were made in a run under way, those of each session in order
abbrev pub AreMade : Workload → Underway → List (SessionNo × Exchange) → Type 0
AreMade w u shown = (n : SessionNo) → IsSession w n → HasSaid u n (said_by n.0 shown)

-- these are all exchanges of a run, those of each session in order: what the view shows
abbrev pub AreAll : Workload → WorldRun → List (SessionNo × Exchange) → Type 0
AreAll w r shown = (n : SessionNo) → IsSession w n → said_by n.0 shown ≡ (session_at r.sessions n.0).log

-- a watch that could tell some exchanges can tell more, by which a list becomes one for which a fact holds
pub record GrowsTo (before after : List (SessionNo × Receipt) → Type 0) (shown : List (SessionNo × Exchange)) (Holds : List (SessionNo × Exchange) → Type 0) : Type 0 where
  pub more : List (SessionNo × Exchange)
  pub holds : Holds (shown ++ more)
  pub tells : (earlier : List (SessionNo × Receipt)) → before earlier → after (earlier ++ map shown_as more)
