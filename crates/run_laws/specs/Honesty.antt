-- When turns that a server claims are those of the world: honesty. The definition is our own.
use Rattle.std.specs.Prelude.{◌≡◌, ℕ, Bool, List, [], ◌∷◌, map, Some}
use Rattle.mope_base.specs.declared.body.Body.{Body}
use Rattle.mope_base.specs.declared.numbers.SessionNo.{SessionNo}
use Rattle.table_model.specs.Stores.{Shelf}
use Rattle.table_model.specs.Steps.{places_by}
use Rattle.table_model.specs.Operations.{rank_op_on, shelf_at}
use Rattle.value_cipher.specs.Cipher.{unseal_of}
use Rattle.versions.specs.declared.op.Op.{Op}
use Rattle.versions.specs.declared.op.Op.TheVariants.{Insert, Delete}
use Rattle.versions.specs.declared.turn.Turn.{Turn}
use Rattle.versions.specs.declared.turn.TurnKind.{TurnKind}
use Rattle.versions.specs.declared.turn.TurnKind.TheVariants.{Began, Committed, Conflict, Installed, Stale}
use Rattle.versions.specs.Databases.{Database}
use Rattle.versions.specs.Operations.{rank_op}
use Rattle.versions.specs.Turns.{after_turn}
use Rattle.workload.specs.declared.script.Workload.{Workload}
use Rattle.run_laws.specs.Worlds.{RunSetting, first_version}
use Rattle.run_laws.specs.WorldRuns.{WorldRun, Taken, first_run, next_turn, world_turn}

-- the sessions of turns
unfoldable pub sessions_of : List Turn → List SessionNo
sessions_of turns = map (λ (turn : Turn). turn.session) turns

-- an operation but for its places
unfoldable pub without_places : Op → Op
without_places (Insert table places bodies) = Insert table [] bodies
without_places (Delete table rows) = Delete table rows

-- what a turn did but for the places
unfoldable pub kind_without_places : TurnKind → TurnKind
kind_without_places (Began number) = Began number
kind_without_places (Committed number ops) = Committed number (map without_places ops)
kind_without_places (Conflict table number) = Conflict table number
kind_without_places (Installed number table column) = Installed number table column
kind_without_places (Stale table number) = Stale table number

-- an INSERT's place in each column is that of its unsealed value among the unsealed items
unfoldable pub IsPlaced : List ℕ → Op → List (Shelf Body) → Type 0
IsPlaced key (Insert table places bodies) shelves = places ≡ places_by (unseal_of key) (shelf_at shelves table.0).columns bodies
IsPlaced key (Delete table rows) shelves = Unit {0}

-- each by the tables as the operations before it leave them
unfoldable pub ArePlaced : List ℕ → Bool → List Op → List (Shelf Body) → Type 0
ArePlaced key same_time [] shelves = Unit {0}
ArePlaced key same_time (op ∷ ops) shelves = IsPlaced key op shelves × ArePlaced key same_time ops (rank_op_on same_time (rank_op op) shelves)

-- the operations of a commit, on the version before it
unfoldable pub KindIsPlaced : List ℕ → TurnKind → Database → Type 0
KindIsPlaced key (Began number) d = Unit {0}
KindIsPlaced key (Committed number ops) d = ArePlaced key d.same_time ops d.shelves
KindIsPlaced key (Conflict table number) d = Unit {0}
KindIsPlaced key (Installed number table column) d = Unit {0}
KindIsPlaced key (Stale table number) d = Unit {0}

-- a turn after those that led to this run and this version: its session has a turn to take, which is this one but for the places; and these
-- are right on this version
pub record IsHonest (s : RunSetting) (r : WorldRun) (d : Database) (turn : Turn) : Type 0 where
  pub taken : Taken
  pub is_next : next_turn s r turn.session ≡ Some taken
  pub same : kind_without_places turn.what ≡ kind_without_places taken.turn.what
  pub placed : KindIsPlaced s.key turn.what d

-- each after those before it
unfoldable pub HonestFrom : RunSetting → WorldRun → Database → List Turn → Type 0
HonestFrom s r d [] = Unit {0}
HonestFrom s r d (turn ∷ turns) = IsHonest s r d turn × HonestFrom s (world_turn s r turn.session) (after_turn turn.what d) turns

-- turns of a workload, from the first one on
abbrev pub Honest : RunSetting → Workload → List Turn → Type 0
Honest s w turns = HonestFrom s (first_run s w) (first_version s w) turns
