-- Statements, with their tables and columns numbered, or the first reason why they can't be.
use Rattle.std.specs.Prelude.{ℕ, zero, suc, Bool, true, false, nat_eq, List, [], ◌∷◌, ◌++◌, length, Option, Some, None, Result, Ok, Err}
use Rattle.std.specs.Option.{option_map}
use Rattle.mope_base.specs.declared.numbers.ColNo.{ColNo}
use Rattle.mope_base.specs.declared.numbers.TableNo.{TableNo}
use Rattle.sql_text.specs.declared.Name.{Name}
use Rattle.sql_text.specs.declared.Test.{Test}
use Rattle.sql_text.specs.declared.statements.Cond.{Cond}
use Rattle.sql_text.specs.declared.statements.Order.{Order}
use Rattle.sql_text.specs.declared.statements.What.{What}
use Rattle.sql_text.specs.declared.statements.What.TheVariants as what
use Rattle.workload.specs.declared.script.Act.{Act}
use Rattle.workload.specs.declared.script.Act.TheVariants as act
use Rattle.workload.specs.declared.script.Decl.{Decl}
use Rattle.workload.specs.declared.script.Piece.{Piece}
use Rattle.workload.specs.declared.script.Piece.TheVariants as piece
use Rattle.workload.specs.declared.script.Verb.{Verb}
use Rattle.workload.specs.declared.script.Verb.TheVariants as verb
use Rattle.workload_file.specs.Naming.{table_of, columns_of, column_of}
use Rattle.workload_file.specs.declared.stops.FileReason.{FileReason}
use Rattle.workload_file.specs.declared.stops.FileReason.TheVariants as reason

unfoldable pub both : {A : Type 0} → Option A → Option (List A) → Option (List A)
both None rest = None
both (Some x) None = None
both (Some x) (Some rest) = Some (x ∷ rest)

-- what a partial function gives for each element, where it gives something for all
unfoldable pub each_found : {A B : Type 0} → (A → Option B) → List A → Option (List B)
each_found find [] = Some []
each_found find (x ∷ xs) = both (find x) (each_found find xs)

-- some elements with what was found behind them
unfoldable pub behind : {A : Type 0} → List A → Option (List A) → Option (List A)
behind front None = None
behind front (Some found) = Some (front ++ found)

-- the numbers of columns
unfoldable pub columns_in : List Name → List Name → Option (List ColNo)
columns_in columns names = each_found (column_of columns) names

-- a condition, with its column numbered
unfoldable pub test_in : List Name → Cond → Option (ColNo × Test)
test_in columns cond = option_map (λ (number : ColNo). (number, cond.test)) (column_of columns cond.column)

unfoldable pub tests_in : List Name → List Cond → Option (List (ColNo × Test))
tests_in columns conds = each_found (test_in columns) conds

-- the first so many numbers of columns
unfoldable pub first_columns : ℕ → List ColNo
first_columns zero = []
first_columns (suc count) = first_columns count ++ record { 0 = count } ∷ []

unfoldable pub order_in : List Name → Option Order → Option (Option (ColNo × Bool))
order_in columns None = Some None
order_in columns (Some order) = option_map (λ (number : ColNo). Some (number, order.down)) (column_of columns order.column)

unfoldable pub rows_in : Option (List ColNo) → Option (Option (ColNo × Bool)) → Option ℕ → Option Verb
rows_in None order limit = None
rows_in (Some columns) None limit = None
rows_in (Some columns) (Some order) limit = Some (verb.Rows columns order limit)

-- what a SELECT asks of a table with these columns
unfoldable pub verb_in : List Name → What → Option Order → Option ℕ → Option Verb
verb_in columns what.All order limit = rows_in (Some (first_columns (length columns))) (order_in columns order) limit
verb_in columns (what.Columns names) order limit = rows_in (columns_in columns names) (order_in columns order) limit
verb_in columns what.Count order limit = Some verb.Count
verb_in columns (what.Min name) order limit = option_map verb.Min (column_of columns name)
verb_in columns (what.Max name) order limit = option_map verb.Max (column_of columns name)

-- a statement that asks, unless a column of it is unknown
unfoldable pub bound : TableNo → Option Verb → Option (List (ColNo × Test)) → Result Act FileReason
bound t None tests = Err reason.UnknownColumn
bound t (Some v) None = Err reason.UnknownColumn
bound t (Some v) (Some tests) = Ok (act.Ask (record { table = t; verb = v; tests = tests }))

unfoldable pub inserted_if : Bool → TableNo → List ℕ → Result Act FileReason
inserted_if true t values = Ok (act.Insert t values)
inserted_if false t values = Err reason.WrongWidth

unfoldable pub inserted_in : List Decl → Option TableNo → List ℕ → Result Act FileReason
inserted_in tables None values = Err reason.UnknownTable
inserted_in tables (Some t) values = inserted_if (nat_eq (length values) (length (columns_of tables t))) t values

-- an INSERT
unfoldable pub inserted : List Decl → Name → List ℕ → Result Act FileReason
inserted tables name values = inserted_in tables (table_of tables name) values

unfoldable pub deleted_in : List Decl → Option TableNo → List Cond → Result Act FileReason
deleted_in tables None conds = Err reason.UnknownTable
deleted_in tables (Some t) conds = bound t (Some verb.Delete) (tests_in (columns_of tables t) conds)

-- a DELETE
unfoldable pub deleted : List Decl → Name → List Cond → Result Act FileReason
deleted tables name conds = deleted_in tables (table_of tables name) conds

unfoldable pub selected_in : List Decl → Option TableNo → What → List Cond → Option Order → Option ℕ → Result Act FileReason
selected_in tables None w conds order limit = Err reason.UnknownTable
selected_in tables (Some t) w conds order limit =
    bound t (verb_in (columns_of tables t) w order limit) (tests_in (columns_of tables t) conds)

-- a SELECT
unfoldable pub selected : List Decl → Name → What → List Cond → Option Order → Option ℕ → Result Act FileReason
selected tables name w conds order limit = selected_in tables (table_of tables name) w conds order limit

unfoldable pub rebuild_of : TableNo → Option ColNo → Result Piece FileReason
rebuild_of t None = Err reason.UnknownColumn
rebuild_of t (Some column) = Ok (piece.Rebuild t column)

unfoldable pub rebuilt_in : List Decl → Option TableNo → Name → Result Piece FileReason
rebuilt_in tables None column = Err reason.UnknownTable
rebuilt_in tables (Some t) column = rebuild_of t (column_of (columns_of tables t) column)

-- a REBUILD
unfoldable pub rebuilt : List Decl → Name → Name → Result Piece FileReason
rebuilt tables name column = rebuilt_in tables (table_of tables name) column
