-- What the walk through a column's index finds, as the definitions tell it.
use Rattle.std.proofs.Common.{◌≡◌, ℕ, ◌-◌, ◌<◌, ◌≤◌, Bool, true, false, ◌||◌, List, [], ◌∷◌, length, map, filter, take, get_or, slice_get, Option, Some, None, refl, ap, ◌∙◌, sym, inl, inr, arith, ne_eqb}
use Rattle.std.proofs.lemmas.Bool.{cases_Bool}
use Rattle.std.proofs.lemmas.List.{take-map, length-map}
use Rattle.std.specs.List.{All}
use Rattle.std.proofs.lemmas.List.Elements.{All-head, All-tail, All-same, All-filter, All-map, All-weaker}
use Rattle.mope_base.specs.declared.body.Body.{Body}
use Rattle.mope_base.specs.declared.numbers.ColNo.{ColNo}
use Rattle.table_model.specs.Stores.{Kept, Shelf}
use Rattle.table_model.specs.Soundness.{kept_numbers}
use Rattle.table_model.proofs.Lists.{map-map}
use Rattle.column_index.specs.declared.entry.Entry.{Entry}
use Rattle.column_index.specs.Entries.{is_same, holds_entry, put, sorted, IsOrdered}
use Rattle.column_index.proofs.Orders.{is_same-false}
use Rattle.column_index.proofs.Sorting.{sorted-nothing, sorted-cons, holds-sorted, IsOrdered-put}
use Rattle.enc_table.specs.Rows.{row_code, entries_at, index_at}
use Rattle.workload.specs.declared.script.Verb.TheVariants as verb
use Rattle.workload.specs.Selection.{passes, ordered, by_column, in_order, first_of, chosen}
use Rattle.sql_plan.specs.declared.bounds.Bound.{Bound}
use Rattle.sql_plan.specs.declared.bounds.Query.{Query}
use Rattle.sql_plan.specs.Bounds.{top, as_test}
use Rattle.sql_plan.specs.Plans.{by_code, passing, rows_found, extreme_verb, extreme_found, HasBounds, HasOrder}
use Rattle.sql_plan.specs.Walks.{by_number, is_within, within, key_by, key_of, keyed, keyed_rows, rows_of, turned, greatest_row}
use Rattle.sql_plan.proofs.RowCodes.{Facts, Told, told-rows, by_number-top}
use Rattle.sql_plan.proofs.Filtering.{filter-yes, filter-no, filter-map}
use Rattle.sql_plan.proofs.Agreeing.{within-rows}
use Rattle.sql_plan.proofs.Sortings.{picked-sorted, sorted-ordered, IsOrdered-filter, length-picked, All-sorted}
use Rattle.sql_plan.proofs.Orderings.{Ups, ups-of, keyed_row, keyed-order}

-- what is changed alike on each element
pub map-alike : {X Y : Type 0} (f g : X → Y) (xs : List X) → All (λ x. f x ≡ g x) xs → map f xs ≡ map g xs
map-alike f g [] same = refl
map-alike f g (x ∷ xs) same =
    let P = λ (y : _). f y ≡ g y in
    ap (λ (y : _). y ∷ map f xs) (All-head P x xs same) ∙ ap (λ (ys : List _). g x ∷ ys) (map-alike f g xs (All-tail P x xs same))

map-itself : {X : Type 0} (xs : List X) → map (λ x. x) xs ≡ xs
map-itself [] = refl
map-itself (x ∷ xs) = ap (λ (ys : List _). x ∷ ys) (map-itself xs)

ups-filter : (p : Kept Body → Bool) (rows : List (Kept Body)) → Ups rows → Ups (filter p rows)
unfolding Ups
ups-filter p [] up = tt
ups-filter p (row ∷ rows) up =
    elim (cases_Bool (p row)) [
      | inl h ↦ rw (filter-yes p row rows h) (All-filter p (λ (r : Kept Body). row.number < r.number) rows up.0, ups-filter p rows up.1)
      | inr h ↦ rw (filter-no p row rows h) (ups-filter p rows up.1)
    ]

pub first-numbers : (limit : Option ℕ) (rows : List (Kept Body)) → first_of limit (kept_numbers rows) ≡ kept_numbers (first_of limit rows)
unfolding first_of kept_numbers
first-numbers None rows = refl
first-numbers (Some limit) rows = take-map (λ (row : Kept Body). row.number) limit rows

first_of_one : (rows : List (Kept Body)) → slice_get (kept_numbers (take 1 rows)) 0 ≡ slice_get (kept_numbers rows) 0
unfolding kept_numbers
first_of_one [] = refl
first_of_one (row ∷ rows) = refl

module _ (s : Shelf Body) (facts : Facts s) where
  abbrev entry_at : ℕ → Kept Body → Entry
  entry_at column row = record { enc = row_code column s row; row = row.number }

  passing-ups : (bounds : List Bound) → Ups (passing s bounds)
  unfolding passing
  passing-ups bounds = ups-filter (passes (by_code s) (map as_test bounds)) s.kept (ups-of s.kept facts.rise)

  passing-told : (bounds : List Bound) → All (Told s) (passing s bounds)
  unfolding passing
  passing-told bounds = All-filter (passes (by_code s) (map as_test bounds)) (Told s) s.kept (told-rows s facts)

  module _ (bounds : List Bound) (there : HasBounds s bounds) where
    within-entries : (column : ℕ) → within s bounds (entries_at column s) ≡ map (entry_at column) (passing s bounds)
    unfolding within entries_at passing
    within-entries column = filter-map (entry_at column) (passes (by_code s) (map as_test bounds)) (λ (e : Entry). is_within s bounds e.row) s.kept (within-rows s bounds facts there)

    keyed-entries : (order : Option (ColNo × Bool)) (column : ℕ) → keyed_rows s order (within s bounds (entries_at column s)) ≡ map (keyed_row s facts order) (passing s bounds)
    unfolding keyed_rows
    keyed-entries order column = ap (map (λ (e : Entry). keyed s order e.row)) (within-entries column) ∙ map-map (λ (e : Entry). keyed s order e.row) (entry_at column) (passing s bounds)

    -- what is found, put in order, is the rows in the order
    sorted-found : (order : Option (ColNo × Bool)) → HasOrder s order → (column : ℕ) → sorted (keyed_rows s order (within s bounds (index_at column s))) ≡ map (keyed_row s facts order) (in_order (by_code s) order (passing s bounds))
    unfolding keyed_rows within index_at
    sorted-found order orders column =
        picked-sorted (λ (e : Entry). is_within s bounds e.row) (λ (e : Entry). keyed s order e.row) (entries_at column s)
        ∙ ap sorted (keyed-entries order column) ∙ sym (keyed-order s facts order orders (passing s bounds) (passing-ups bounds) (passing-told bounds))

    rows-keyed : (order : Option (ColNo × Bool)) (rows : List (Kept Body)) → rows_of (map (keyed_row s facts order) rows) ≡ kept_numbers rows
    unfolding rows_of keyed kept_numbers
    rows-keyed order rows = map-map (λ (e : Entry). e.row) (keyed_row s facts order) rows

    rows-sorted : (order : Option (ColNo × Bool)) → HasOrder s order → (column : ℕ) → rows_of (sorted (keyed_rows s order (within s bounds (index_at column s)))) ≡ kept_numbers (in_order (by_code s) order (passing s bounds))
    rows-sorted order orders column = ap rows_of (sorted-found order orders column) ∙ rows-keyed order (in_order (by_code s) order (passing s bounds))

    pub count-found : (column : ℕ) → length (within s bounds (index_at column s)) ≡ length (passing s bounds)
    unfolding within index_at
    count-found column =
        length-picked (λ (e : Entry). is_within s bounds e.row) (λ (e : Entry). e) (entries_at column s)
        ∙ ap length (within-entries column) ∙ length-map (passing s bounds) (entry_at column)

    -- ---- the rows at both ends of an order

    chosen-first : (column : ColNo) (greatest : Bool) → slice_get (kept_numbers (in_order (by_code s) (Some (column, greatest)) (passing s bounds))) 0 ≡ extreme_found s bounds column greatest
    unfolding extreme_found extreme_verb chosen in_order
    chosen-first column false = sym (first_of_one (ordered (by_column (by_code s) column false) (passing s bounds)))
    chosen-first column true = sym (first_of_one (ordered (by_column (by_code s) column true) (passing s bounds)))

  pub rows-found : (q : Query) → HasBounds s q.bounds → HasOrder s q.order → (column : ℕ) → first_of q.limit (rows_of (sorted (keyed_rows s q.order (within s q.bounds (index_at column s))))) ≡ rows_found s q
  unfolding rows_found chosen
  rows-found q there orders column =
      ap (first_of q.limit) (rows-sorted q.bounds there q.order orders column) ∙ first-numbers q.limit (in_order (by_code s) q.order (passing s q.bounds))

  -- ---- the entries of an index

  pub told-entries : (column : ColNo) → column.0 < length s.columns → All (λ (e : Entry). by_number s column e.row ≡ e.enc) (index_at column.0 s)
  unfolding index_at entries_at by_code
  told-entries column there =
      All-sorted (λ (e : Entry). by_number s column e.row ≡ e.enc) (entries_at column.0 s)
      (All-map (λ (e : Entry). by_number s column e.row ≡ e.enc) (entry_at column.0) s.kept (λ k d lt. told-rows s facts k d lt column there))

  pub top-entries : (column : ColNo) → column.0 < length s.columns → All (λ (e : Entry). e.enc ≤ top) (index_at column.0 s)
  top-entries column there k d lt = let told = told-entries column there k d lt in let fits = by_number-top s facts column (get_or (index_at column.0 s) k d).row there in omega arith

  not-held : (column : ℕ) (row : Kept Body) (rows : List (Kept Body)) → All (λ (r : Kept Body). row.number < r.number) rows → holds_entry (entry_at column row) (map (entry_at column) rows) ≡ false
  unfolding holds_entry
  not-held column row [] up = refl
  not-held column row (r ∷ rows) up =
      let P : Kept Body → Type 0 = λ (x : Kept Body). row.number < x.number in
      let lt = All-head P r rows up in
      ap (λ (b : Bool). b || holds_entry (entry_at column row) (map (entry_at column) rows)) (is_same-false (entry_at column row) (entry_at column r) (λ same. omega (arith, ap (λ (e : Entry). e.row) same, lt)))
      ∙ not-held column row rows (All-tail P r rows up)

  ordered-rows : (column : ℕ) (rows : List (Kept Body)) → Ups rows → IsOrdered (sorted (map (entry_at column) rows))
  unfolding Ups IsOrdered
  ordered-rows column [] up = rw sorted-nothing tt
  ordered-rows column (row ∷ rows) up =
      rw (sorted-cons (entry_at column row) (map (entry_at column) rows))
      (IsOrdered-put (entry_at column row) (sorted (map (entry_at column) rows)) (ordered-rows column rows up.1) (holds-sorted (entry_at column row) (map (entry_at column) rows) ∙ not-held column row rows up.0))

  pub ordered-entries : (column : ℕ) → IsOrdered (index_at column s)
  unfolding index_at entries_at
  ordered-entries column = ordered-rows column s.kept (ups-of s.kept facts.rise)

  module _ (bounds : List Bound) (there : HasBounds s bounds) (column : ColNo) (in' : column.0 < length s.columns) where
    told-within : All (λ (e : Entry). by_number s column e.row ≡ e.enc) (within s bounds (index_at column.0 s))
    unfolding within
    told-within = All-filter (λ (e : Entry). is_within s bounds e.row) (λ (e : Entry). by_number s column e.row ≡ e.enc) (index_at column.0 s) (told-entries column in')

    keyed-up : keyed_rows s (Some (column, false)) (within s bounds (index_at column.0 s)) ≡ within s bounds (index_at column.0 s)
    unfolding keyed_rows keyed key_of key_by
    keyed-up =
        map-alike (λ (e : Entry). keyed s (Some (column, false)) e.row) (λ (e : Entry). e) (within s bounds (index_at column.0 s))
        (λ k d lt. let e = get_or (within s bounds (index_at column.0 s)) k d in ap (λ (code : ℕ). let x : Entry = record { enc = code; row = e.row } in x) (told-within k d lt))
        ∙ map-itself (within s bounds (index_at column.0 s))

    keyed-down : keyed_rows s (Some (column, true)) (within s bounds (index_at column.0 s)) ≡ turned (within s bounds (index_at column.0 s))
    unfolding keyed_rows keyed key_of key_by turned
    keyed-down =
        map-alike (λ (e : Entry). keyed s (Some (column, true)) e.row) (λ (e : Entry). record { enc = top - e.enc; row = e.row }) (within s bounds (index_at column.0 s))
        (λ k d lt. let e = get_or (within s bounds (index_at column.0 s)) k d in ap (λ (code : ℕ). let x : Entry = record { enc = top - code; row = e.row } in x) (told-within k d lt))

    ordered-within : IsOrdered (within s bounds (index_at column.0 s))
    unfolding within
    ordered-within = IsOrdered-filter (λ (e : Entry). is_within s bounds e.row) (index_at column.0 s) (ordered-entries column.0)

    pub least-found : slice_get (rows_of (within s bounds (index_at column.0 s))) 0 ≡ extreme_found s bounds column false
    least-found =
        ap (λ (es : List Entry). slice_get (rows_of es) 0) (sym (sorted-ordered (within s bounds (index_at column.0 s)) ordered-within) ∙ sym (ap sorted keyed-up))
        ∙ ap (λ (ns : List ℕ). slice_get ns 0) (rows-sorted bounds there (Some (column, false)) in' column.0) ∙ chosen-first bounds there column false

    pub greatest-found : greatest_row s bounds (index_at column.0 s) ≡ extreme_found s bounds column true
    unfolding greatest_row
    greatest-found =
        ap (λ (es : List Entry). slice_get (rows_of (sorted es)) 0) (sym keyed-down)
        ∙ ap (λ (ns : List ℕ). slice_get ns 0) (rows-sorted bounds there (Some (column, true)) in' column.0) ∙ chosen-first bounds there column true
