-- The run of the world under any turns, and turns that are honest: the statements of laws that this crate's functions without a body prove.
use Rattle.std.specs.Prelude.{◌≡◌, List, [], ◌∷◌, ◌++◌, map, Some}
use Rattle.mope_base.specs.declared.numbers.SessionNo.{SessionNo}
use Rattle.versions.specs.declared.turn.Turn.{Turn}
use Rattle.versions.specs.declared.turn.TurnKind.{TurnKind}
use Rattle.versions.specs.Turns.{replay, AreTold}
use Rattle.workload.specs.declared.script.Workload.{Workload}
use Rattle.workload.specs.Run.{initial, number_of, take_turns, run, turns_taken, SkipsNone}
use Rattle.workload.specs.Validity.{IsValid}
use Rattle.transaction_laws.specs.Queries.{AreDeclared}
use Rattle.transaction_laws.specs.Standing.{Stands}
use Rattle.transaction_laws.specs.Transactions.{plain_database}
use Rattle.run_laws.specs.Worlds.{RunSetting, first_version}
use Rattle.run_laws.specs.WorldRuns.{WorldRun, Taken, first_run, next_turn, world_turns, world_run}
use Rattle.run_laws.specs.Honesty.{sessions_of, Honest}

-- the plain run is inside that of the world: after a list of turns, and at the end
pub record IsInside (s : RunSetting) (w : Workload) (turns : List SessionNo) : Type 0 where
  pub after_turns : (world_turns s (first_run s w) turns).plain ≡ take_turns (initial w) turns
  pub finished : (world_run s w turns).plain ≡ run w turns

abbrev pub PlainRunInside : Type 0
PlainRunInside = (s : RunSetting) (w : Workload) (turns : List SessionNo) → IsInside s w turns

-- the version that the turns lead to stands for the world, and they tell its sums; the world in clear is the plain run's database
pub record RunStands (s : RunSetting) (w : Workload) (r : WorldRun) : Type 0 where
  pub stands : Stands s.key (replay r.turns (first_version s w)) r.current
  pub told : AreTold r.turns (first_version s w)
  pub plain : plain_database r.current.stores ≡ r.plain.current
  pub number : r.current.number ≡ number_of r.plain
  pub declared : AreDeclared w.tables r.current.stores
  pub sessions : sessions_of r.turns ≡ turns_taken r.plain

-- after any turns of any valid workload
abbrev pub TurnsStand : Type 0
TurnsStand = (s : RunSetting) (w : Workload) → IsValid w → (turns : List SessionNo) → RunStands s w (world_turns s (first_run s w) turns)

-- and at the end
abbrev pub RunsStand : Type 0
RunsStand = (s : RunSetting) (w : Workload) → IsValid w → (turns : List SessionNo) → RunStands s w (world_run s w turns)

-- ---- honest turns

abbrev pub kinds_of : List Turn → List TurnKind
kinds_of turns = map (λ (turn : Turn). turn.what) turns

-- honest turns skip none; they are the world's, places included; the version that they lead to stands for the world after them; and where
-- each tells what it did, they are the world's turns with its sums
pub record HonestRun (s : RunSetting) (w : Workload) (turns : List Turn) (r : WorldRun) : Type 0 where
  pub skips_none : SkipsNone w (sessions_of turns)
  pub kinds : kinds_of turns ≡ kinds_of r.turns
  pub stands : Stands s.key (replay turns (first_version s w)) r.current
  pub whole : AreTold turns (first_version s w) → turns ≡ r.turns

abbrev pub HonestTurnsStand : Type 0
HonestTurnsStand = (s : RunSetting) (w : Workload) → IsValid w → (turns : List Turn) → Honest s w turns → HonestRun s w turns (world_turns s (first_run s w) (sessions_of turns))

-- honest turns and what a session does next
abbrev pub NextIsHonest : Type 0
NextIsHonest = (s : RunSetting) (w : Workload) → IsValid w → (turns : List Turn) → Honest s w turns → (turn : Turn) (taken : Taken) → next_turn s (world_turns s (first_run s w) (sessions_of turns)) turn.session ≡ Some taken → turn.what ≡ taken.turn.what → Honest s w (turns ++ turn ∷ [])

-- the turns of a run are honest, and lead to it
pub record OwnTurns (s : RunSetting) (w : Workload) (r : WorldRun) : Type 0 where
  pub lead : world_turns s (first_run s w) (sessions_of r.turns) ≡ r
  pub honest : Honest s w r.turns

abbrev pub TurnsAreHonest : Type 0
TurnsAreHonest = (s : RunSetting) (w : Workload) → IsValid w → (turns : List SessionNo) → OwnTurns s w (world_turns s (first_run s w) turns)

abbrev pub RunIsHonest : Type 0
RunIsHonest = (s : RunSetting) (w : Workload) → IsValid w → (turns : List SessionNo) → OwnTurns s w (world_run s w turns)
