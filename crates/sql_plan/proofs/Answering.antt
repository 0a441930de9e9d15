-- What the walks through a column's index answer, by what is seen of the index.
use Rattle.std.proofs.Common.{◌≡◌, ℕ, ◌<◌, ◌≤◌, Bool, true, false, List, [], ◌∷◌, length, drop, slice_get, Option, Some, None, refl, ap, ◌∙◌, sym, subst}
use Rattle.std.specs.List.{All}
use Rattle.mope_base.specs.declared.body.Body.{Body}
use Rattle.mope_base.specs.declared.numbers.ColNo.{ColNo}
use Rattle.table_model.specs.Stores.{Shelf}
use Rattle.column_index.specs.declared.entry.Entry.{Entry}
use Rattle.column_index.specs.Entries.{sorted, IsOrdered}
use Rattle.column_index.specs.Seen.{Seen, index_of}
use Rattle.column_index.proofs.Sorting.{sorted-nothing}
use Rattle.enc_table.specs.Rows.{index_at}
use Rattle.workload.specs.Selection.{first_of}
use Rattle.sql_plan.specs.declared.bounds.Bound.{Bound}
use Rattle.sql_plan.specs.declared.bounds.Query.{Query}
use Rattle.sql_plan.specs.Bounds.{top}
use Rattle.sql_plan.specs.Plans.{passing, rows_found, extreme_found, HasBounds, HasOrder}
use Rattle.sql_plan.specs.Walks.{within, keyed_rows, rows_of, turned, greatest_row}
use Rattle.sql_plan.proofs.RowCodes.{Facts}
use Rattle.sql_plan.proofs.Found.{rows-found, count-found, least-found, greatest-found, top-entries, ordered-entries}

pub greatest-none : (s : Shelf Body) (bounds : List Bound) (entries : List Entry) → within s bounds entries ≡ [] → None ≡ greatest_row s bounds entries
unfolding greatest_row turned rows_of
greatest-none s bounds entries none =
    sym (ap (λ (es : List Entry). slice_get (rows_of (sorted (turned es))) 0) none ∙ ap (λ (es : List Entry). slice_get (rows_of es) 0) sorted-nothing)

pub first-row : (entries : List Entry) (e : Entry) → slice_get entries 0 ≡ Some e → slice_get (rows_of entries) 0 ≡ Some e.row
unfolding rows_of
first-row [] e is = absurd (cc)
first-row (x ∷ xs) e is = let same : x ≡ e = (let f : Some x ≡ Some e = is in cc) in ap (λ (y : Entry). Some y.row) same

pub first-none : (entries : List Entry) → slice_get entries 0 ≡ None → slice_get (rows_of entries) 0 ≡ None
unfolding rows_of
first-none [] is = refl
first-none (x ∷ xs) is = absurd (cc)

module _ (s : Shelf Body) (facts : Facts s) (column : ColNo) (there : column.0 < length s.columns) (index : Seen) (own : index ≡ index_of (index_at column.0 s)) where
  entries-are : index.entries ≡ index_at column.0 s
  unfolding index_of
  entries-are = ap (λ (i : Seen). i.entries) own

  pub count-of : (bounds : List Bound) → HasBounds s bounds → length (within s bounds index.entries) ≡ length (passing s bounds)
  count-of bounds in' = ap (λ (es : List Entry). length (within s bounds es)) entries-are ∙ count-found s facts bounds in' column.0

  pub codes-of : All (λ (e : Entry). e.enc ≤ top) index.entries
  codes-of = subst (λ (es : List Entry). All (λ (e : Entry). e.enc ≤ top) es) (sym entries-are) (top-entries s facts column there)

  pub ordered-of : IsOrdered index.entries
  ordered-of = subst IsOrdered (sym entries-are) (ordered-entries s facts column.0)

  pub greatest-of : (bounds : List Bound) → HasBounds s bounds → greatest_row s bounds index.entries ≡ extreme_found s bounds column true
  greatest-of bounds in' = ap (greatest_row s bounds) entries-are ∙ greatest-found s facts bounds in' column there

  pub least-of : (bounds : List Bound) → HasBounds s bounds → slice_get (rows_of (within s bounds index.entries)) 0 ≡ extreme_found s bounds column false
  least-of bounds in' = ap (λ (es : List Entry). slice_get (rows_of (within s bounds es)) 0) entries-are ∙ least-found s facts bounds in' column there

  pub found-of : (q : Query) → HasBounds s q.bounds → HasOrder s q.order → first_of q.limit (rows_of (sorted (keyed_rows s q.order (within s q.bounds index.entries)))) ≡ rows_found s q
  found-of q in' orders = ap (λ (es : List Entry). first_of q.limit (rows_of (sorted (keyed_rows s q.order (within s q.bounds es))))) entries-are ∙ rows-found s facts q in' orders column.0
