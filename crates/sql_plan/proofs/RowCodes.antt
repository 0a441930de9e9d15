-- The codes of a table's rows: by its number a row has the codes that it has itself, and each code has 64 bits.
use Rattle.std.proofs.Common.{◌≡◌, ℕ, zero, suc, ◌+◌, ◌<◌, ◌≤◌, ◌^◌, Bool, true, false, List, [], ◌∷◌, ◌++◌, length, get_or, slice_get, Option, Some, None, refl, ap, ◌∙◌, sym, arith, inl, inr, eq-eqb, ne_eqb, ◌⊎◌}
use Rattle.std.specs.List.{All}
use Rattle.std.specs.Option.{unwrap_or}
use Rattle.std.proofs.lemmas.List.Elements.{All-nil, All-cons}
use Rattle.std.proofs.lemmas.Option.{slice_get_past}
use Rattle.mope_base.specs.declared.body.Body.{Body}
use Rattle.mope_base.specs.declared.numbers.ColNo.{ColNo}
use Rattle.tree_model.specs.declared.Place.TheVariants.{Found}
use Rattle.tree_model.specs.Trees.{Tree, height, path}
use Rattle.tree_model.specs.Places.{IsBelowAll, IsIncreasing}
use Rattle.tree_model.specs.Columns.{Column}
use Rattle.tree_model.proofs.Ways.{length-path}
use Rattle.path_code.specs.Codes.{code_of, code_within}
use Rattle.path_code.specs.Sums.{item_code}
use Rattle.path_code.proofs.Spelling.{code_within-lt}
use Rattle.table_model.specs.Stores.{Kept, Shelf}
use Rattle.table_model.specs.Changes.{here_or, of_row, ranks_of}
use Rattle.table_model.specs.Soundness.{kept_numbers, column_at, FitsRows}
use Rattle.table_model.specs.ShelfSoundness.{AllFull, SoundShelf}
use Rattle.table_model.proofs.ShelfSoundOps.{shelf_fits_rows}
use Rattle.enc_table.specs.Rows.{item_codes, code_at, row_code}
use Rattle.enc_table.specs.Seen.{Seen, IsTable}
use Rattle.sql_plan.specs.Bounds.{top}
use Rattle.sql_plan.specs.Plans.{by_code}
use Rattle.sql_plan.specs.Walks.{by_number}

-- ---- codes have 64 bits

pub item_code-top : {A : Type 0} (t : Tree A) (rank : ℕ) → height t ≤ 63 → item_code t rank ≤ top
unfolding item_code code_of
item_code-top t rank low =
    let short : code_within 63 (path t (Found rank)) < 2 ^ 64 = code_within-lt 63 (path t (Found rank)) (omega (arith, length-path t (Found rank))) in
    omega arith

-- ---- what is used of a table

pub record Facts (s : Shelf Body) : Type 0 where
  pub rise : IsIncreasing (kept_numbers s.kept)
  pub full : AllFull (length s.columns) s.kept
  pub low : (column : ℕ) → column < length s.columns → height (column_at s.columns column).tree ≤ 63

below-front : (x y : ℕ) (xs : List ℕ) → IsBelowAll x (xs ++ y ∷ []) → IsBelowAll x xs
unfolding IsBelowAll
below-front x y [] all = tt
below-front x y (z ∷ xs) all = (all.0, below-front x y xs all.1)

rise-front : (y : ℕ) (xs : List ℕ) → IsIncreasing (xs ++ y ∷ []) → IsIncreasing xs
unfolding IsIncreasing
rise-front y [] up = tt
rise-front y (x ∷ xs) up = (below-front x y xs up.0, rise-front y xs up.1)

pub facts-of : (t : Seen) → IsTable t → Facts t.shelf
facts-of t is = record {
  rise = rise-front t.shelf.next (kept_numbers t.shelf.kept) is.sound.numbered;
  full = is.sound.full;
  low = λ column lt.
      let limit_low = is.low in
      (shelf_fits_rows t.same_time t.limit t.shelf column is.sound lt).fits.any (omega arith);
}

-- ---- the codes of a row

item_codes-at : (cs : List (Column Body)) (ranks : List ℕ) (column : ℕ) → column < length cs → length ranks ≡ length cs
    → slice_get (item_codes cs ranks) column ≡ Some (item_code (column_at cs column).tree (get_or ranks column 0))
unfolding item_codes column_at
item_codes-at [] ranks column lt wide = absurd (omega arith)
item_codes-at (c ∷ cs) [] column lt wide = absurd (omega arith)
item_codes-at (c ∷ cs) (rank ∷ ranks) zero lt wide = refl
item_codes-at (c ∷ cs) (rank ∷ ranks) (suc column) lt wide = item_codes-at cs ranks column (omega arith) (omega arith)

item_codes-top : (cs : List (Column Body)) (ranks : List ℕ) (column : ℕ) → column < length cs → ((i : ℕ) → i < length cs → height (column_at cs i).tree ≤ 63)
    → unwrap_or (slice_get (item_codes cs ranks) column) 0 ≤ top
unfolding item_codes column_at
item_codes-top [] ranks column lt low = absurd (omega arith)
item_codes-top (c ∷ cs) [] column lt low = omega arith
item_codes-top (c ∷ cs) (rank ∷ ranks) zero lt low = item_code-top c.tree rank (low 0 lt)
item_codes-top (c ∷ cs) (rank ∷ ranks) (suc column) lt low = item_codes-top cs ranks column (omega arith) (λ i within. low (suc i) (omega arith))

pub by_number-top : (s : Shelf Body) → Facts s → (column : ColNo) (number : ℕ) → column.0 < length s.columns → by_number s column number ≤ top
unfolding by_number code_at
by_number-top s facts column number lt = item_codes-top s.columns (ranks_of number s.kept) column.0 lt facts.low

-- ---- the row of a number

pub rows-above : (number : ℕ) (kept : List (Kept Body)) → IsBelowAll number (kept_numbers kept) → All (λ (row : Kept Body). number < row.number) kept
unfolding IsBelowAll kept_numbers
rows-above number [] all = All-nil (λ (row : Kept Body). number < row.number)
rows-above number (row ∷ kept) all = All-cons (λ (r : Kept Body). number < r.number) row kept all.0 (rows-above number kept all.1)

ranks-here : (row : Kept Body) (kept : List (Kept Body)) → ranks_of row.number (row ∷ kept) ≡ row.ranks
unfolding ranks_of of_row here_or
ranks-here row kept = rw (eq-eqb row.number row.number refl) refl

ranks-later : (number : ℕ) (row : Kept Body) (kept : List (Kept Body)) → row.number < number → ranks_of number (row ∷ kept) ≡ ranks_of number kept
unfolding ranks_of of_row here_or
ranks-later number row kept lt = rw (ne_eqb row.number number (λ same. omega arith)) refl

pub ranks-rows : (kept : List (Kept Body)) → IsIncreasing (kept_numbers kept) → All (λ (row : Kept Body). ranks_of row.number kept ≡ row.ranks) kept
unfolding IsIncreasing kept_numbers
ranks-rows [] up = All-nil (λ (row : Kept Body). ranks_of row.number [] ≡ row.ranks)
ranks-rows (row ∷ kept) up =
    All-cons (λ (r : Kept Body). ranks_of r.number (row ∷ kept) ≡ r.ranks) row kept (ranks-here row kept)
    (λ k d lt. ranks-later (get_or kept k d).number row kept (rows-above row.number kept up.0 k d lt) ∙ ranks-rows kept up.1 k d lt)

full-rows : (width : ℕ) (kept : List (Kept Body)) → AllFull width kept → All (λ (row : Kept Body). length row.ranks ≡ width) kept
unfolding AllFull
full-rows width [] full = All-nil (λ (row : Kept Body). length row.ranks ≡ width)
full-rows width (row ∷ kept) full = All-cons (λ (r : Kept Body). length r.ranks ≡ width) row kept full.1 (full-rows width kept full.2)

-- a row told by its number reads as itself
abbrev pub Told : Shelf Body → Kept Body → Type 0
Told s row = (column : ColNo) → column.0 < length s.columns → by_number s column row.number ≡ by_code s column row

told-row : (s : Shelf Body) (row : Kept Body) → ranks_of row.number s.kept ≡ row.ranks → length row.ranks ≡ length s.columns → Told s row
unfolding by_number by_code code_at row_code
told-row s row ranks wide column lt =
    ap (λ (rs : List ℕ). unwrap_or (slice_get (item_codes s.columns rs) column.0) 0) ranks
    ∙ ap (λ (o : Option ℕ). unwrap_or o 0) (item_codes-at s.columns row.ranks column.0 lt wide)

pub told-rows : (s : Shelf Body) → Facts s → All (Told s) s.kept
told-rows s facts k d lt = told-row s (get_or s.kept k d) (ranks-rows s.kept facts.rise k d lt) (full-rows (length s.columns) s.kept facts.full k d lt)

pub by_code-top : (s : Shelf Body) → Facts s → (column : ColNo) (row : Kept Body) → column.0 < length s.columns → by_code s column row ≤ top
unfolding by_code row_code
by_code-top s facts column row lt = item_code-top (column_at s.columns column.0).tree (get_or row.ranks column.0 0) (facts.low column.0 lt)
