-- The turns that a begin, a commit and an install take, and what these answer.
use Rattle.std.specs.Prelude.{ℕ, suc, Bool, true, false, ltb, List, Option, Some, None}
use Rattle.mope_base.specs.declared.numbers.TableNo.{TableNo}
use Rattle.mope_base.specs.declared.numbers.ColNo.{ColNo}
use Rattle.mope_base.specs.declared.numbers.SessionNo.{SessionNo}
use Rattle.versions.specs.declared.op.Op.{Op}
use Rattle.versions.specs.declared.turn.Turn.{Turn}
use Rattle.versions.specs.declared.turn.TurnKind.{TurnKind}
use Rattle.versions.specs.declared.turn.TurnKind.TheVariants as kind
use Rattle.versions.specs.Databases.{Database, stamps_at}
use Rattle.versions.specs.Turns.{changes_by}
use Rattle.versions.specs.Newer.{lowest_newer, last_change}
use Rattle.txn_core.specs.declared.outcome.Committed.{Committed}
use Rattle.txn_core.specs.declared.outcome.Committed.TheVariants as commit
use Rattle.txn_core.specs.declared.outcome.Installed.{Installed}
use Rattle.txn_core.specs.declared.outcome.Installed.TheVariants as install

-- a turn of a session on a version, with all that it changed
unfoldable pub turn_on : SessionNo → TurnKind → Database → Turn
turn_on session what d = record { session = session; what = what; changes = changes_by what d }

-- ---- a commit

-- the lowest of these tables that was written after the base, with its stamp
unfoldable pub conflict_on : Database → ℕ → List TableNo → Option (TableNo × ℕ)
conflict_on current base touched = lowest_newer 0 current.stamps base touched

unfoldable pub committed_or : Option (TableNo × ℕ) → ℕ → List Op → TurnKind
committed_or None number ops = kind.Committed number ops
committed_or (Some newer) number ops = kind.Conflict newer.0 newer.1

-- what the commit turn does of a transaction that began at a number, touched these tables and has these operations
unfoldable pub commit_kind : Database → ℕ → List TableNo → List Op → TurnKind
commit_kind current base touched ops = committed_or (conflict_on current base touched) (suc current.number) ops

unfoldable pub answer_or : Option (TableNo × ℕ) → ℕ → Committed
answer_or None number = commit.Committed number
answer_or (Some newer) number = commit.Conflict newer.0 newer.1

unfoldable pub commit_answer : Database → ℕ → List TableNo → Committed
commit_answer current base touched = answer_or (conflict_on current base touched) (suc current.number)

-- ---- an install

-- the version that last changed a table of a version
unfoldable pub changed_by : Database → TableNo → ℕ
changed_by current table = last_change (stamps_at current.stamps table.0)

unfoldable pub stale_if : Bool → ℕ → ℕ → TableNo → ColNo → TurnKind
stale_if true newer number table column = kind.Stale table newer
stale_if false newer number table column = kind.Installed number table column

-- what the install turn does of a column that was balanced after a begin at a number
unfoldable pub install_kind : Database → ℕ → TableNo → ColNo → TurnKind
install_kind current base table column = stale_if (ltb base (changed_by current table)) (changed_by current table) (suc current.number) table column

unfoldable pub stale_answer_if : Bool → ℕ → ℕ → TableNo → Installed
stale_answer_if true newer number table = install.Stale table newer
stale_answer_if false newer number table = install.Installed number

unfoldable pub install_answer : Database → ℕ → TableNo → Installed
install_answer current base table = stale_answer_if (ltb base (changed_by current table)) (changed_by current table) (suc current.number) table
