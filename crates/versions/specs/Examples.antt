-- Worked examples: the statements that this crate's functions without a body compute.
use Rattle.std.specs.Prelude.{◌≡◌, ℕ, Bool, true, false, List, [], ◌∷◌, Some, None}
use Rattle.mope_base.specs.declared.body.Body.{Body}
use Rattle.tree_model.specs.declared.Place.{Place}
use Rattle.tree_model.specs.declared.Place.TheVariants.{Found, Gap}
use Rattle.path_code.specs.declared.moves.Recode.{Recode}
use Rattle.path_code.specs.Sums.{Sum}
use Rattle.table_model.specs.Operations.{RankOp, InsertAt, DeleteAt}
use Rattle.enc_table.specs.declared.stamps.Stamps.{Stamps}
use Rattle.versions.specs.declared.change.ColumnChange.{ColumnChange}
use Rattle.versions.specs.Databases.{Database, first_database, stamps_at}
use Rattle.versions.specs.Operations.{with_ops, with_install}
use Rattle.versions.specs.Changes.{ops_changes, install_changes}
use Rattle.versions.specs.Newer.{lowest_newer, last_change}

-- one table of one column
abbrev pub one_table : Bool → Database
one_table same_time = first_database (1 ∷ []) same_time 65536

abbrev pub two_tables : Database
two_tables = first_database (1 ∷ 1 ∷ []) false 65536

abbrev pub put_row : ℕ → Place → ℕ → RankOp Body
put_row table place value = InsertAt table (place ∷ []) (record { nonce = 0; masked = value } ∷ [])

-- a version after one commit of one operation
abbrev pub after_one : RankOp Body → Database → Database
after_one op d = with_ops (op ∷ []) d

abbrev pub stamped_at : ℕ → ℕ → Stamps
stamped_at written laid = record { written = written; laid = laid }

abbrev pub moves : ℕ → ℕ → Recode
moves old new = record { old = old; new = new }

abbrev pub first_column : Sum → ColumnChange
first_column s = record { table = record { 0 = 0 }; column = record { 0 = 0 }; summary = s }

abbrev pub new_code_alone : ℕ → Sum
new_code_alone code = record { moved = []; dropped = []; added = code ∷ [] }

-- ---- rebuild-on-depth: 1, 2, 3, 4 and 5 by five commits; the fifth would be too deep, and the root is balanced

abbrev pub four_rows : Bool → Database
four_rows same_time = after_one (put_row 0 (Gap 3) 4) (after_one (put_row 0 (Gap 2) 3) (after_one (put_row 0 (Gap 1) 2) (after_one (put_row 0 (Gap 0) 1) (one_table same_time))))

abbrev pub balanced_change : Sum
balanced_change = record {
  moved = moves 0x8000000000000000 0x2000000000000000 ∷ moves 0xc000000000000000 0x4000000000000000 ∷ moves 0xe000000000000000 0x8000000000000000 ∷ moves 0xf000000000000000 0xa000000000000000 ∷ [];
  dropped = [];
  added = 0xc000000000000000 ∷ [];
}

pub record FifthBalances (same_time : Bool) : Type 0 where
  pub changes : ops_changes (put_row 0 (Gap 4) 5 ∷ []) (four_rows same_time) ≡ first_column balanced_change ∷ []
  pub stamps : (after_one (put_row 0 (Gap 4) 5) (four_rows same_time)).stamps ≡ stamped_at 5 0 ∷ []

abbrev pub RebuildOnDepth : Type 0
RebuildOnDepth = FifthBalances false × FifthBalances true

-- ---- drop-last-duplicate: 7 by three commits, then the three rows by one: the column is empty, its code is dropped, in both modes

abbrev pub three_sevens : Bool → Database
three_sevens same_time = after_one (put_row 0 (Found 0) 7) (after_one (put_row 0 (Found 0) 7) (after_one (put_row 0 (Gap 0) 7) (one_table same_time)))

abbrev pub take_sevens : RankOp Body
take_sevens = DeleteAt 0 (1 ∷ 2 ∷ 3 ∷ [])

pub record LastDuplicateDrops (same_time : Bool) : Type 0 where
  pub nothing : ops_changes (put_row 0 (Found 0) 7 ∷ []) (after_one (put_row 0 (Gap 0) 7) (one_table same_time)) ≡ []
  pub changes : ops_changes (take_sevens ∷ []) (three_sevens same_time) ≡ first_column (record { moved = []; dropped = 0x8000000000000000 ∷ []; added = [] }) ∷ []
  pub stamps : (after_one take_sevens (three_sevens same_time)).stamps ≡ stamped_at 4 0 ∷ []

abbrev pub DropLastDuplicate : Type 0
DropLastDuplicate = LastDuplicateDrops false × LastDuplicateDrops true

-- ---- commit-across-install: an operation of a transaction that began on two rows, on the version in which an install has balanced
-- their tree: its code is the one in the balanced tree

abbrev pub two_rows : Database
two_rows = after_one (put_row 0 (Gap 1) 2) (after_one (put_row 0 (Gap 0) 1) (one_table false))

pub record CommitsAcross : Type 0 where
  pub before : ops_changes (put_row 0 (Gap 2) 9 ∷ []) two_rows ≡ first_column (new_code_alone 0xe000000000000000) ∷ []
  pub laid : install_changes 0 0 two_rows ≡ first_column (record { moved = moves 0x8000000000000000 0x4000000000000000 ∷ moves 0xc000000000000000 0x8000000000000000 ∷ []; dropped = []; added = [] }) ∷ []
  pub after : ops_changes (put_row 0 (Gap 2) 9 ∷ []) (with_install 0 0 two_rows) ≡ first_column (new_code_alone 0xc000000000000000) ∷ []
  pub stamps : (after_one (put_row 0 (Gap 2) 9) (with_install 0 0 two_rows)).stamps ≡ stamped_at 4 3 ∷ []
  pub free : lowest_newer 0 (with_install 0 0 two_rows).stamps 2 (record { 0 = 0 } ∷ []) ≡ None
  pub stale : last_change (stamps_at (with_install 0 0 two_rows).stamps 0) ≡ 3

abbrev pub CommitAcrossInstall : Type 0
CommitAcrossInstall = CommitsAcross

-- ---- several operations of one commit, on two tables: each column's change is all of its operations', by table; a column whose codes
-- all stay isn't listed; and of two tables that were written since, the lowest is found

abbrev pub on_both : List (RankOp Body)
on_both = put_row 1 (Gap 0) 5 ∷ put_row 0 (Gap 0) 7 ∷ put_row 1 (Gap 1) 6 ∷ []

pub record WritesBoth : Type 0 where
  pub changes : ops_changes on_both two_tables ≡ first_column (new_code_alone 0x8000000000000000) ∷ record { table = record { 0 = 1 }; column = record { 0 = 0 }; summary = record { moved = []; dropped = []; added = 0x8000000000000000 ∷ 0xc000000000000000 ∷ [] } } ∷ []
  pub nothing_left : ops_changes (put_row 0 (Gap 0) 7 ∷ DeleteAt 0 (1 ∷ []) ∷ []) two_tables ≡ []
  pub stamps : (with_ops on_both two_tables).stamps ≡ stamped_at 1 0 ∷ stamped_at 1 0 ∷ []
  pub other_stays : (after_one (put_row 1 (Gap 0) 5) two_tables).stamps ≡ stamped_at 0 0 ∷ stamped_at 1 0 ∷ []
  pub lowest : lowest_newer 0 (with_ops on_both two_tables).stamps 0 (record { 0 = 1 } ∷ record { 0 = 0 } ∷ []) ≡ Some (record { 0 = 0 }, 1)
  pub touched_alone : lowest_newer 0 (with_ops on_both two_tables).stamps 0 (record { 0 = 1 } ∷ []) ≡ Some (record { 0 = 1 }, 1)

abbrev pub TwoTables : Type 0
TwoTables = WritesBoth
