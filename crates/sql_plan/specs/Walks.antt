-- Walks through an index: rows told by their numbers, the part of an index in which rows can be, and entries that tell an order.
use Rattle.std.specs.Prelude.{◌≡◌, ℕ, ◌+◌, ◌-◌, ◌<◌, ◌≤◌, Bool, true, false, not, ◌==◌, max, min, List, [], ◌∷◌, length, map, filter, take, drop, get_or, slice_get, Option, Some, None}
use Rattle.std.specs.Option.{unwrap_or}
use Rattle.mope_base.specs.declared.body.Body.{Body}
use Rattle.mope_base.specs.declared.numbers.ColNo.{ColNo}
use Rattle.table_model.specs.Stores.{Shelf}
use Rattle.column_index.specs.declared.entry.Entry.{Entry}
use Rattle.column_index.specs.Entries.{precedes, sorted}
use Rattle.enc_table.specs.Rows.{code_at}
use Rattle.workload.specs.Selection.{passes}
use Rattle.sql_plan.specs.declared.bounds.Bound.{Bound}
use Rattle.sql_plan.specs.Bounds.{top, as_test}

-- a row that is told by its number, read by codes; 0, which is no code, where there is no such row
unfoldable pub by_number : Shelf Body → ColNo → ℕ → ℕ
by_number s column number = unwrap_or (code_at number column.0 s) 0

unfoldable pub is_within : Shelf Body → List Bound → ℕ → Bool
is_within s bounds number = passes (by_number s) (map as_test bounds) number

-- the entries of rows that are within the bounds
unfoldable pub within : Shelf Body → List Bound → List Entry → List Entry
within s bounds entries = filter (λ (e : Entry). is_within s bounds e.row) entries

-- the ends that all bounds on a column have in common
unfoldable pub narrowed : Bool → Bound → ℕ × ℕ → ℕ × ℕ
narrowed true b ends = (max b.lo ends.0, min b.hi ends.1)
narrowed false b ends = ends

unfoldable pub ends_in : ColNo → List Bound → ℕ × ℕ
ends_in column [] = (0, top)
ends_in column (b ∷ bounds) = narrowed (b.column.0 == column.0) b (ends_in column bounds)

-- the entries within the bounds stand from one place on and before another
pub record IsSpan (s : Shelf Body) (bounds : List Bound) (entries : List Entry) (first end : ℕ) : Type 0 where
  pub order : first ≤ end
  pub inside : end ≤ length entries
  pub before : within s bounds (take first entries) ≡ []
  pub after : within s bounds (drop end entries) ≡ []

-- the last entry within the bounds, and its place
pub record IsLastWithin (s : Shelf Body) (bounds : List Bound) (entries : List Entry) (end : ℕ) (e : Entry) : Type 0 where
  pub place : ℕ
  pub inside : place < end
  pub here : slice_get entries place ≡ Some e
  pub is_in : is_within s bounds e.row ≡ true
  pub after : within s bounds (drop (place + 1) entries) ≡ []

-- what a row is put in order by: nothing but its number, or the code in a column, whose order turns round downwards
unfoldable pub key_by : Bool → ℕ → ℕ
key_by false code = code
key_by true code = top - code

unfoldable pub key_of : Shelf Body → Option (ColNo × Bool) → ℕ → ℕ
key_of s None number = 0
key_of s (Some order) number = key_by order.1 (by_number s order.0 number)

unfoldable pub keyed : Shelf Body → Option (ColNo × Bool) → ℕ → Entry
keyed s order number = record { enc = key_of s order number; row = number }

unfoldable pub keyed_rows : Shelf Body → Option (ColNo × Bool) → List Entry → List Entry
keyed_rows s order entries = map (λ (e : Entry). keyed s order e.row) entries

unfoldable pub rows_of : List Entry → List ℕ
rows_of entries = map (λ (e : Entry). e.row) entries

-- the codes turned round: what is greatest becomes least, and equal ones stay in their order
unfoldable pub turned : List Entry → List Entry
turned entries = map (λ (e : Entry). record { enc = top - e.enc; row = e.row }) entries

-- the first of the entries within the bounds that have the greatest code: told by its row
unfoldable pub greatest_row : Shelf Body → List Bound → List Entry → Option ℕ
greatest_row s bounds entries = slice_get (rows_of (sorted (turned (within s bounds entries)))) 0

-- one entry doesn't stand after the other
unfoldable pub up_to : Entry → Entry → Bool
up_to e x = not (precedes x e)
