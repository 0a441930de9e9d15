-- Laws of schedules: statements.
use Rattle.std.specs.Prelude.{◌≡◌, ℕ, suc, ◌*◌, ◌<◌, List, [], ◌∷◌, ◌++◌, length}
use Rattle.mope_base.specs.declared.numbers.SessionNo.{SessionNo}
use Rattle.walk_proto.specs.declared.messages.Exchange.{Exchange}
use Rattle.workload.specs.declared.script.Workload.{Workload}
use Rattle.workload.specs.Run.{Position, ready, committing, installing, position_at, run, IsComplete}
use Rattle.workload.specs.Validity.{IsValid}
use Rattle.run_laws.specs.Worlds.{RunSetting}
use Rattle.run_laws.specs.WorldRuns.{world_finished_session, world_run}
use Rattle.run_laws.specs.RunLaws.{RunStands}
use Rattle.run_laws.specs.Schedules.{Underway, due_at, stepped, scheduled, run_under, turns_under}

-- an entry more is a step more
abbrev pub EntriesGoOn : Type 0
EntriesGoOn = (s : RunSetting) (u : Underway) (schedule : List SessionNo) (n : SessionNo) → scheduled s u (schedule ++ n ∷ []) ≡ stepped s (scheduled s u schedule) n

-- the turns of a workload under a schedule are a complete list
abbrev pub TurnsUnderAreComplete : Type 0
TurnsUnderAreComplete = (s : RunSetting) (w : Workload) (schedule : List SessionNo) → IsComplete w (turns_under s w schedule)

-- the run of these turns is the one that the schedule led to
abbrev pub TurnsUnderGiveRun : Type 0
TurnsUnderGiveRun = (s : RunSetting) (w : Workload) (schedule : List SessionNo) → world_run s w (turns_under s w schedule) ≡ run_under s w schedule

-- and its plain run is that of the turns
abbrev pub PlainRunUnder : Type 0
PlainRunUnder = (s : RunSetting) (w : Workload) (schedule : List SessionNo) → (run_under s w schedule).plain ≡ run w (turns_under s w schedule)

-- of a valid workload, the version that its turns lead to stands for its world, and they tell its sums
abbrev pub RunUnderStands : Type 0
RunUnderStands = (s : RunSetting) (w : Workload) (schedule : List SessionNo) → IsValid w → RunStands s w (run_under s w schedule)

-- a session has ended, or is none: it rests, and its script has nothing left
pub record HasNothingLeft (u : Underway) (n : SessionNo) : Type 0 where
  pub rests : due_at u.due n.0 ≡ []
  pub place : ℕ
  pub over : position_at u.run.plain.positions n.0 ≡ ready place []

-- its entries count for nothing, and it has finished
abbrev pub EndedStays : Type 0
EndedStays = (s : RunSetting) (u : Underway) (n : SessionNo) → HasNothingLeft u n → stepped s u n ≡ u

abbrev pub EndedIsFinished : Type 0
EndedIsFinished = (s : RunSetting) (u : Underway) (n : SessionNo) → HasNothingLeft u n → world_finished_session s u.run n ≡ u.run

-- a step of a session is one on its way to its end: it finishes as before
abbrev pub StepsFinish : Type 0
StepsFinish = (s : RunSetting) (u : Underway) (n : SessionNo) → world_finished_session s (stepped s u n).run n ≡ world_finished_session s u.run n

-- how many turns a session takes at most before it has ended
unfoldable pub turns_left : Position → ℕ
turns_left (ready place rest) = 2 * length rest
turns_left (committing place base work rest) = suc (2 * length rest)
turns_left (installing place base t column rest) = suc (2 * length rest)

-- a step makes the first exchange that remains, or takes a turn, after which fewer are left
unfoldable pub RunsOut : List Exchange → Underway → Underway → SessionNo → Type 0
RunsOut (e ∷ log) u v n = (due_at v.due n.0 ≡ log) × (v.run ≡ u.run)
RunsOut [] u v n = turns_left (position_at v.run.plain.positions n.0) < turns_left (position_at u.run.plain.positions n.0)

-- so each session comes to its end by its steps
abbrev pub StepsRunOut : Type 0
StepsRunOut = (s : RunSetting) (u : Underway) (n : SessionNo) → (HasNothingLeft u n → ⊥) → RunsOut (due_at u.due n.0) u (stepped s u n) n
