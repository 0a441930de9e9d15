-- What a turn tells that a server takes on its version is what the turn of the world's run tells: statements.
use Rattle.std.specs.Prelude.{◌≡◌, ℕ, suc, Bool, true, false, ltb, List, [], ◌∷◌, ◌++◌, Option, Some, None}
use Rattle.mope_base.specs.declared.numbers.TableNo.{TableNo}
use Rattle.mope_base.specs.declared.numbers.ColNo.{ColNo}
use Rattle.mope_base.specs.declared.numbers.SessionNo.{SessionNo}
use Rattle.versions.specs.declared.op.Op.{Op}
use Rattle.versions.specs.declared.turn.Turn.{Turn}
use Rattle.versions.specs.declared.turn.TurnKind.TheVariants.{Began, Committed, Conflict, Installed, Stale}
use Rattle.versions.specs.Databases.{Database, stamps_at}
use Rattle.versions.specs.Operations.{rank_ops}
use Rattle.versions.specs.Changes.{ops_changes, install_changes}
use Rattle.versions.specs.Newer.{lowest_newer, last_change}
use Rattle.versions.specs.Turns.{replay}
use Rattle.workload.specs.declared.script.Piece.{Piece}
use Rattle.workload.specs.declared.script.Workload.{Workload}
use Rattle.workload.specs.Run.{ready, committing, installing, position_at}
use Rattle.workload.specs.Transaction.{Work}
use Rattle.workload.specs.Validity.{IsValid}
use Rattle.transaction_laws.specs.Transactions.{kept_ops}
use Rattle.run_laws.specs.Worlds.{RunSetting, first_version}
use Rattle.run_laws.specs.WorldRuns.{WorldRun, first_run, session_at, world_at, world_turn, world_turns}

-- a state of the run of a workload: some turns lead to it
pub record IsReached (s : RunSetting) (w : Workload) (r : WorldRun) : Type 0 where
  pub turns : List SessionNo
  pub lead : world_turns s (first_run s w) turns ≡ r

-- the server's version then
unfoldable pub version_now : RunSetting → Workload → WorldRun → Database
version_now s w r = replay r.turns (first_version s w)

-- ---- the turns that a server takes on a version

unfoldable pub begin_told : SessionNo → Database → Turn
begin_told n d = record { session = n; what = Began d.number; changes = [] }

-- of these operations, by whether one of the touched tables was written since
unfoldable pub commit_told : SessionNo → Option (TableNo × ℕ) → List Op → Database → Turn
commit_told n None ops d = record { session = n; what = Committed (suc d.number) ops; changes = ops_changes (rank_ops ops) d }
commit_told n (Some newer) ops d = record { session = n; what = Conflict newer.0 newer.1; changes = [] }

-- of this column, by whether its table was changed since, by the version of that number
unfoldable pub install_told : SessionNo → TableNo → ColNo → Bool → ℕ → Database → Turn
install_told n t column true newer d = record { session = n; what = Stale t newer; changes = [] }
install_told n t column false newer d = record { session = n; what = Installed (suc d.number) t column; changes = install_changes t.0 column.0 d }

-- ---- they are the world's

abbrev pub BeginTells : Type 0
BeginTells = (s : RunSetting) (w : Workload) (r : WorldRun) (n : SessionNo) (place : ℕ) (p : Piece) (rest : List Piece) → IsValid w → IsReached s w r → position_at r.plain.positions n.0 ≡ ready place (p ∷ rest)
    → (world_turn s r n).turns ≡ r.turns ++ begin_told n (version_now s w r) ∷ []

-- whether a touched table was written since the base, the server's stamps show
abbrev pub CommitTells : Type 0
CommitTells = (s : RunSetting) (w : Workload) (r : WorldRun) (n : SessionNo) (place base : ℕ) (work : Work) (rest : List Piece) → IsValid w → IsReached s w r → position_at r.plain.positions n.0 ≡ committing place base work rest
    → (world_turn s r n).turns ≡ r.turns ++ commit_told n (lowest_newer 0 (version_now s w r).stamps base work.touched) (kept_ops s.key s.same_time (session_at r.sessions n.0).tried.ops (world_at r base).stores) (version_now s w r) ∷ []

abbrev pub InstallTells : Type 0
InstallTells = (s : RunSetting) (w : Workload) (r : WorldRun) (n : SessionNo) (place base : ℕ) (t : TableNo) (column : ColNo) (rest : List Piece) → IsValid w → IsReached s w r → position_at r.plain.positions n.0 ≡ installing place base t column rest
    → (world_turn s r n).turns ≡ r.turns ++ install_told n t column (ltb base (last_change (stamps_at (version_now s w r).stamps t.0))) (last_change (stamps_at (version_now s w r).stamps t.0)) (version_now s w r) ∷ []
