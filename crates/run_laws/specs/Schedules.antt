-- Turns under a schedule: each entry lets its session make its next exchange. The definition is our own.
use Rattle.std.specs.Prelude.{ℕ, zero, suc, List, [], ◌∷◌, ◌++◌, map, get_or, set}
use Rattle.mope_base.specs.declared.numbers.SessionNo.{SessionNo}
use Rattle.walk_proto.specs.declared.messages.Exchange.{Exchange}
use Rattle.workload.specs.declared.script.Piece.{Piece}
use Rattle.workload.specs.declared.script.Piece.TheVariants as piece
use Rattle.workload.specs.declared.script.Workload.{Workload}
use Rattle.workload.specs.Run.{Position, ready, committing, installing, position_at, session_numbers}
use Rattle.transaction_laws.specs.Standing.{World}
use Rattle.transaction_laws.specs.Transactions.{tried_on, acts_tried, acts_log}
use Rattle.run_laws.specs.Worlds.{RunSetting, session_setting}
use Rattle.run_laws.specs.WorldRuns.{WorldRun, Session, first_run, session_at, closing_by, world_turn, world_finished}
use Rattle.run_laws.specs.Honesty.{sessions_of}

-- a run under way: the run of the world, and for each session the exchanges that remain before it rests
pub record Underway : Type 0 where
  pub run : WorldRun
  pub due : List (List Exchange)

-- the exchanges that remain for a session; sessions count from 1
unfoldable pub due_at : List (List Exchange) → ℕ → List Exchange
due_at due zero = []
due_at due (suc i) = get_or due i []

unfoldable pub with_due : List (List Exchange) → ℕ → List Exchange → List (List Exchange)
with_due due zero log = due
with_due due (suc i) log = set due i log

-- before the first entry
unfoldable pub first_underway : RunSetting → Workload → Underway
first_underway s w = record { run = first_run s w; due = map (λ (_ : List Piece). []) w.sessions }

-- the exchanges after a begin: those of the statements, and the end, unless it waits for a turn
unfoldable pub due_after_begin : RunSetting → World → SessionNo → Session → Piece → List Exchange
due_after_begin s world n session (piece.Txn acts rollback) =
    acts_log (session_setting s n) world.same_time acts (tried_on world.stores session.tried.seals)
    ++ closing_by rollback world.number (acts_tried (session_setting s n) world.same_time acts (tried_on world.stores session.tried.seals)).plain
due_after_begin s world n session (piece.Rebuild t column) = []

-- and after the next turn of a session that stands there: after a commit or an install there are none
unfoldable pub due_from : RunSetting → WorldRun → SessionNo → Position → List Exchange
due_from s r n (ready place []) = []
due_from s r n (ready place (p ∷ rest)) = due_after_begin s r.current n (session_at r.sessions n.0) p
due_from s r n (committing place base work rest) = []
due_from s r n (installing place base t column rest) = []

-- a session makes its next exchange: the first that remains; or, where it rests, the one that holds its next turn. One that has ended makes none
unfoldable pub stepped_by : RunSetting → List Exchange → Underway → SessionNo → Underway
stepped_by s [] u n = record { run = world_turn s u.run n; due = with_due u.due n.0 (due_from s u.run n (position_at u.run.plain.positions n.0)) }
stepped_by s (e ∷ log) u n = record { run = u.run; due = with_due u.due n.0 log }

unfoldable pub stepped : RunSetting → Underway → SessionNo → Underway
stepped s u n = stepped_by s (due_at u.due n.0) u n

-- each entry of a schedule in its turn
unfoldable pub scheduled : RunSetting → Underway → List SessionNo → Underway
scheduled s u [] = u
scheduled s u (n ∷ schedule) = scheduled s (stepped s u n) schedule

-- the run under a schedule: after its entries sessions 1, 2 and so on finish
unfoldable pub run_under : RunSetting → Workload → List SessionNo → WorldRun
run_under s w schedule = world_finished s (scheduled s (first_underway s w) schedule).run (session_numbers 1 w.sessions)

-- the turns of a workload under a schedule, as the list of their sessions
unfoldable pub turns_under : RunSetting → Workload → List SessionNo → List SessionNo
turns_under s w schedule = sessions_of (run_under s w schedule).turns
