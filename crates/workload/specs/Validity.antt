-- When a workload is valid: all that its file's reader lets through, and the limits. The rules are our own.
use Rattle.std.specs.Prelude.{◌≡◌, ℕ, ◌^◌, ◌<◌, ◌≤◌, Bool, List, [], ◌∷◌, map, length, get_or, Option, Some, None}
use Rattle.std.specs.List.{sum_by}
use Rattle.mope_base.specs.Lists.{Each}
use Rattle.mope_base.specs.declared.numbers.TableNo.{TableNo}
use Rattle.mope_base.specs.declared.numbers.ColNo.{ColNo}
use Rattle.sql_text.specs.declared.Name.{Name}
use Rattle.sql_text.specs.declared.Test.{Test}
use Rattle.sql_text.specs.declared.Test.TheVariants as test
use Rattle.sql_text.specs.Words.{IsName}
use Rattle.workload.specs.declared.script.Act.{Act}
use Rattle.workload.specs.declared.script.Act.TheVariants as act
use Rattle.workload.specs.declared.script.Decl.{Decl}
use Rattle.workload.specs.declared.script.Piece.{Piece}
use Rattle.workload.specs.declared.script.Piece.TheVariants as piece
use Rattle.workload.specs.declared.script.Verb.{Verb}
use Rattle.workload.specs.declared.script.Verb.TheVariants as verb
use Rattle.workload.specs.declared.script.Workload.{Workload}

-- no name stands twice
unfoldable pub AreDistinct : List Name → Type 0
AreDistinct [] = Unit {0}
AreDistinct (name ∷ names) = Each (λ (other : Name). other ≡ name → ⊥) names × AreDistinct names

-- a table's name and those of its columns are names; it has 1 to 8 columns, whose names differ
pub record IsValidDecl (d : Decl) : Type 0 where
  pub named : IsName d.name.bytes
  pub columns_named : Each (λ (column : Name). IsName column.bytes) d.columns
  pub some_column : 0 < length d.columns
  pub few_columns : length d.columns ≤ 8
  pub distinct : AreDistinct d.columns

-- how many columns a table has; one that isn't declared has none
unfoldable pub column_count : List Decl → TableNo → ℕ
column_count tables t = get_or (map (λ (d : Decl). length d.columns) tables) t.0 0

-- a column of a table
abbrev pub IsColumn : List Decl → TableNo → ColNo → Type 0
IsColumn tables t c = c.0 < column_count tables t

-- a number is of 64 bits
abbrev pub IsNumber : ℕ → Type 0
IsNumber n = n < 2 ^ 64

-- the constants of a test are numbers
unfoldable pub HasNumbers : Test → Type 0
HasNumbers (test.Eq c) = IsNumber c
HasNumbers (test.Lt c) = IsNumber c
HasNumbers (test.Le c) = IsNumber c
HasNumbers (test.Gt c) = IsNumber c
HasNumbers (test.Ge c) = IsNumber c
HasNumbers (test.Between low high) = IsNumber low × IsNumber high

-- a condition is about a column of the table
abbrev pub IsValidTest : List Decl → TableNo → ColNo × Test → Type 0
IsValidTest tables t condition = IsColumn tables t condition.0 × HasNumbers condition.1

abbrev pub IsOrderColumn : List Decl → TableNo → Option (ColNo × Bool) → Type 0
IsOrderColumn tables t None = Unit {0}
IsOrderColumn tables t (Some order) = IsColumn tables t order.0

abbrev pub IsLimit : Option ℕ → Type 0
IsLimit None = Unit {0}
IsLimit (Some limit) = IsNumber limit

-- a SELECT lists 1 to 8 columns
abbrev pub IsValidVerb : List Decl → TableNo → Verb → Type 0
IsValidVerb tables t (verb.Rows columns order limit) =
    (0 < length columns) × (length columns ≤ 8) × Each (IsColumn tables t) columns × IsOrderColumn tables t order × IsLimit limit
IsValidVerb tables t verb.Count = Unit {0}
IsValidVerb tables t (verb.Min column) = IsColumn tables t column
IsValidVerb tables t (verb.Max column) = IsColumn tables t column
IsValidVerb tables t verb.Delete = Unit {0}

-- a statement names a declared table and columns of it; it has at most 8 conditions, and an INSERT a value per column
abbrev pub IsValidAct : List Decl → Act → Type 0
IsValidAct tables (act.Insert t values) = (t.0 < length tables) × (length values ≡ column_count tables t) × Each IsNumber values
IsValidAct tables (act.Ask ask) =
    (ask.table.0 < length tables) × (length ask.tests ≤ 8) × Each (IsValidTest tables ask.table) ask.tests
    × IsValidVerb tables ask.table ask.verb

abbrev pub IsValidPiece : List Decl → Piece → Type 0
IsValidPiece tables (piece.Txn statements rollback) = Each (IsValidAct tables) statements × (length statements < 2 ^ 32)
IsValidPiece tables (piece.Rebuild t column) = (t.0 < length tables) × IsColumn tables t column

-- how many numbers stand in an INSERT, and in the INSERTs of a transaction
unfoldable pub inserted_numbers : Act → ℕ
inserted_numbers (act.Insert t values) = length values
inserted_numbers (act.Ask ask) = 0

unfoldable pub numbers_inserted : Piece → ℕ
numbers_inserted (piece.Txn statements rollback) = sum_by inserted_numbers statements
numbers_inserted (piece.Rebuild t column) = 0

-- a session has fewer than 2^32 transactions, and fewer than 2^32 numbers in its INSERTs together
pub record IsValidScript (tables : List Decl) (pieces : List Piece) : Type 0 where
  pub valid : Each (IsValidPiece tables) pieces
  pub few_pieces : length pieces < 2 ^ 32
  pub few_numbers : sum_by numbers_inserted pieces < 2 ^ 32

-- at most 16 tables, whose names differ, and at most 64 sessions
pub record IsValid (w : Workload) : Type 0 where
  pub few_tables : length w.tables ≤ 16
  pub tables : Each IsValidDecl w.tables
  pub distinct : AreDistinct (map (λ (d : Decl). d.name) w.tables)
  pub few_sessions : length w.sessions ≤ 64
  pub scripts : Each (IsValidScript w.tables) w.sessions
