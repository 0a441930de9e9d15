-- A selection as a query about codes, and the bodies of rows that are told by their numbers.
use Rattle.std.specs.Prelude.{◌≡◌, ℕ, ◌<◌, ◌≤◌, ◌==◌, Bool, List, [], ◌∷◌, map, flat_map, length, true}
use Rattle.std.specs.Option.{unwrap_or}
use Rattle.mope_base.specs.declared.body.Body.{Body}
use Rattle.mope_base.specs.declared.numbers.ColNo.{ColNo}
use Rattle.mope_base.specs.Lists.{Each}
use Rattle.sql_text.specs.declared.Test.{Test}
use Rattle.tree_model.specs.Trees.{size, IsPlaceOf}
use Rattle.table_model.specs.Stores.{Shelf}
use Rattle.table_model.specs.Soundness.{column_at, kept_numbers}
use Rattle.enc_table.specs.Rows.{body_at, no_body}
use Rattle.sql_plan.specs.declared.bounds.Bound.{Bound}
use Rattle.sql_plan.specs.declared.bounds.Query.{Query}
use Rattle.sql_plan.specs.Bounds.{bound_of}
use Rattle.sql_plan.specs.Plans.{by_code, passing, extreme_verb}
use Rattle.workload.specs.Selection.{chosen}
use Rattle.walk_proto.specs.declared.messages.Asked.{Asked}
use Rattle.server_conn.specs.declared.txn.Mark.{Mark as Placed}
use Rattle.server_conn.specs.Checks.{constants_of}
use Rattle.server_conn.specs.Inside.{mark_of}
use Rattle.server_conn.specs.Serving.{code_at_mark, tests_of, order_by}

-- the codes of places in a table
unfoldable pub codes_in : Shelf Body → List Placed → List ℕ
codes_in s marks = map (code_at_mark s) (map mark_of marks)

-- the bounds of conditions on codes
unfoldable pub bounds_by : List (ColNo × Test) → List Bound
bounds_by tests = map (λ (test : ColNo × Test). bound_of test.0 test.1) tests

-- a selection whose constants' places have these codes
unfoldable pub query_by : Asked → List ℕ → Query
query_by a codes = record { bounds = bounds_by (tests_of a.conds codes); order = order_by a.order a.order_column; limit = a.limit }

-- a row's bodies in some columns, the row told by its number
unfoldable pub bodies_by : Shelf Body → List ℕ → ℕ → List Body
bodies_by s columns number = map (λ (column : ℕ). unwrap_or (body_at number column s) no_body) columns

-- the numbers of the rows with the least or the greatest body in a column: one, or none
unfoldable pub extreme_numbers : Shelf Body → List Bound → ℕ → Bool → List ℕ
extreme_numbers s bounds column greatest = kept_numbers (chosen (by_code s) (extreme_verb greatest (record { 0 = column })) (passing s bounds))

-- ---- when a selection fits a table

-- a place is one of its column's tree
pub record IsMarkOn (s : Shelf Body) (m : Placed) : Type 0 where
  pub column_there : m.column.0 < length s.columns
  pub is_place : IsPlaceOf (size (column_at s.columns m.column.0).tree) m.place

-- an operator is one of the six
abbrev pub IsKnown : ℕ × ℕ → Type 0
IsKnown cond = cond.1 ≤ 5

-- its places are as many as its constants, and each is one of the table
pub record FitsTable (s : Shelf Body) (marks : List Placed) (conds : List (ℕ × ℕ)) : Type 0 where
  pub known : Each IsKnown conds
  pub many : length marks ≡ length (constants_of conds)
  pub on : Each (IsMarkOn s) marks
