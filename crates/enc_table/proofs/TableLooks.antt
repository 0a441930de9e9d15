-- What the rows of stored columns have, and what a look-up finds of it.
use Rattle.std.proofs.Common.{◌≡◌, ℕ, suc, zero, ◌<◌, ◌≤◌, Bool, true, false, Option, Some, None, List, [], ◌∷◌, length, map, get_or, refl, ap, ap₂, ◌∙◌, sym, subst, inl, inr, arith, eqb, ltb, ◌⊎◌}
use Rattle.std.proofs.lemmas.Bool.{cases_lt, cases_Bool, lt-ltb, ltb-true}
use Rattle.std.proofs.lemmas.List.{length-map, get_or-map, ext_get_or}
use Rattle.std.proofs.lemmas.Option.{get_or_from_slice_get, slice_get_within, slice_get-get_or, slice_get_past}
use Rattle.std.specs.Prelude.{MatchOption, slice_get}
use Rattle.mope_base.specs.declared.body.Body.{Body}
use Rattle.tree_model.specs.Trees.{Tree, size}
use Rattle.tree_model.specs.Places.{IsIncreasing, holds}
use Rattle.tree_model.specs.Items.{Item}
use Rattle.tree_model.specs.Columns.{Column}
use Rattle.tree_model.proofs.CarriedRanks.{false_is_true}
use Rattle.path_code.specs.Sums.{item_code}
use Rattle.column_index.specs.declared.entry.Entry.{Entry}
use Rattle.column_index.specs.Entries.{sorted}
use Rattle.table_model.specs.Stores.{Kept, Shelf}
use Rattle.table_model.specs.Changes.{here_or, of_row, ranks_of}
use Rattle.table_model.specs.Soundness.{kept_numbers, ranks_at, column_at}
use Rattle.table_model.specs.ShelfSoundness.{AllFull}
use Rattle.table_model.proofs.Numbers.{of_row-none}
use Rattle.enc_table.specs.declared.cell.Cell.{Cell}
use Rattle.enc_table.specs.declared.columns.Column.{Column as Stored}
use Rattle.enc_table.specs.Rows.{bodies_of, item_codes, body_at, code_at, row_code, no_body, cells_at, entries_at, index_at}
use Rattle.enc_table.specs.Stored.{stored_at, codes_in, bodies_in, ranks_in, kept_in, trees_in, shelf_in}
use Rattle.enc_table.specs.Held.{IsHeld, entries_of}
use Rattle.enc_table.specs.Fields.{AreHeld, IsCellOf}
use Rattle.enc_table.proofs.TableLists.{trees-at, length-trees}
use Rattle.enc_table.proofs.KeptRows.{bodies_at, KeptIs, length-ranks}
use Rattle.enc_table.proofs.KeptSteps.{Row, kept-held}
use Rattle.enc_table.proofs.KeptDrops.{no_row, of_row-at, ranks_of-at, width-at, rank_in-row}

-- ---- whether a column is there

pub there-some : (column n : ℕ) → true ≡ ltb column n → column < n
there-some column n e = ltb-true column n (sym e)

pub there-none : (column n : ℕ) → false ≡ ltb column n → n ≤ column
there-none column n e = elim (cases_lt column n) [ inl h ↦ false_is_true (e ∙ lt-ltb column n h) | inr h ↦ h ]

-- ---- the row at a position

abbrev no_cell : Cell
no_cell = record { body = no_body; code = 0 }

body-in : (c : Stored) (k : ℕ) → k < length c.cells → get_or (bodies_in c) k no_body ≡ (get_or c.cells k no_cell).body
unfolding bodies_in
body-in c k h = get_or-map (λ (cell : Cell). cell.body) c.cells k no_cell no_body h

code-in : (c : Stored) (k : ℕ) → k < length c.cells → get_or (codes_in c.cells) k 0 ≡ (get_or c.cells k no_cell).code
unfolding codes_in
code-in c k h = get_or-map (λ (cell : Cell). cell.code) c.cells k no_cell 0 h

body_in-row : (i k : ℕ) (kept : List Row) → k < length kept → get_or (bodies_at i kept) k no_body ≡ get_or (get_or kept k no_row).bodies i no_body
unfolding bodies_at
body_in-row i k kept h = get_or-map (λ (row : Row). get_or row.bodies i no_body) kept k no_row no_body h

number_in-row : (k : ℕ) (kept : List Row) → k < length kept → get_or (kept_numbers kept) k 0 ≡ (get_or kept k no_row).number
unfolding kept_numbers
number_in-row k kept h = get_or-map (λ (row : Row). row.number) kept k no_row 0 h

-- what the row at a position has in a column
pub record RowHas (numbers : List ℕ) (cs : List Stored) (column k : ℕ) : Type 0 where
  pub body : get_or (get_or (kept_in numbers cs) k no_row).bodies column no_body ≡ (get_or (stored_at cs column).cells k no_cell).body
  pub code : item_code (column_at (trees_in cs) column).tree (get_or (get_or (kept_in numbers cs) k no_row).ranks column 0) ≡ (get_or (stored_at cs column).cells k no_cell).code
  pub number : (get_or (kept_in numbers cs) k no_row).number ≡ get_or numbers k 0

pub row-has : (numbers : List ℕ) (cs : List Stored) (column k : ℕ) → AreHeld numbers cs → column < length cs → k < length numbers → RowHas numbers cs column k
row-has numbers cs column k held h within =
    let kept = kept_in numbers cs in
    let c = stored_at cs column in
    let t = c.tree.column.tree in
    let is = kept-held numbers cs held in
    let here = held.each column h in
    let in_kept : k < length kept = omega (arith, within, is.many) in
    let in_cells : k < length c.cells = omega (arith, within, here.many) in
    let in_ranks : k < length (ranks_in c) = omega (arith, in_cells, length-ranks c) in
    record {
      body = sym (body_in-row column k kept in_kept) ∙ ap (λ (bs : List Body). get_or bs k no_body) (is.bodies_are column h) ∙ body-in c k in_cells;
      code =
          ap₂ (λ (d : Column Body) (rank : ℕ). item_code d.tree rank) (trees-at cs column) (sym (rank_in-row column k kept in_kept) ∙ ap (λ (ns : List ℕ). get_or ns k 0) (is.ranks_are column h))
          ∙ sym (get_or-map (item_code t) (ranks_in c) k 0 0 in_ranks)
          ∙ ap (λ (ns : List ℕ). get_or ns k 0) (sym here.coded.coded)
          ∙ code-in c k in_cells;
      number = sym (number_in-row k kept in_kept) ∙ ap (λ (ns : List ℕ). get_or ns k 0) is.numbers_are;
    }

pub cells-seen : (numbers : List ℕ) (next : ℕ) (cs : List Stored) (column : ℕ) → AreHeld numbers cs → column < length cs → cells_at column (shelf_in numbers next cs) ≡ (stored_at cs column).cells
unfolding cells_at row_code shelf_in
cells-seen numbers next cs column held h =
    let kept = kept_in numbers cs in
    let cells = (stored_at cs column).cells in
    let is = kept-held numbers cs held in
    let what : Row → Cell = λ (row : Row). record { body = get_or row.bodies column no_body; code = item_code (column_at (trees_in cs) column).tree (get_or row.ranks column 0) } in
    let many : length (map what kept) ≡ length cells = length-map kept what ∙ is.many ∙ sym (held.each column h).many in
    ext_get_or no_cell (map what kept) cells many
    (λ k below.
    let within : k < length numbers = omega (arith, below, many, (held.each column h).many) in
    let has = row-has numbers cs column k held h within in
    get_or-map what kept k no_row no_cell (omega (arith, within, is.many))
    ∙ ap₂ (λ (b : Body) (n : ℕ). let cell : Cell = record { body = b; code = n } in cell) has.body has.code)

entry_at : (codes numbers : List ℕ) (k : ℕ) (e : Entry) → k < length codes → k < length numbers → get_or (entries_of codes numbers) k e ≡ record { enc = get_or codes k 0; row = get_or numbers k 0 }
unfolding entries_of
entry_at [] numbers k e h j = absurd (omega (arith, h))
entry_at (code ∷ codes) [] k e h j = absurd (omega (arith, j))
entry_at (code ∷ codes) (number ∷ numbers) zero e h j = refl
entry_at (code ∷ codes) (number ∷ numbers) (suc k) e h j = entry_at codes numbers k e (omega (arith, h)) (omega (arith, j))

length-entries : (codes numbers : List ℕ) → length codes ≡ length numbers → length (entries_of codes numbers) ≡ length numbers
unfolding entries_of
length-entries [] numbers e = e
length-entries (code ∷ codes) [] e = refl
length-entries (code ∷ codes) (number ∷ numbers) e = ap suc (length-entries codes numbers (omega (arith, e)))

length-codes : (cells : List Cell) → length (codes_in cells) ≡ length cells
unfolding codes_in
length-codes cells = length-map cells (λ (cell : Cell). cell.code)

entries-seen : (numbers : List ℕ) (next : ℕ) (cs : List Stored) (column : ℕ) → AreHeld numbers cs → column < length cs → entries_at column (shelf_in numbers next cs) ≡ entries_of (codes_in (stored_at cs column).cells) numbers
unfolding entries_at row_code shelf_in
entries-seen numbers next cs column held h =
    let kept = kept_in numbers cs in
    let cells = (stored_at cs column).cells in
    let is = kept-held numbers cs held in
    let no_entry : Entry = record { enc = 0; row = 0 } in
    let what : Row → Entry = λ (row : Row). record { enc = item_code (column_at (trees_in cs) column).tree (get_or row.ranks column 0); row = row.number } in
    let codes : length (codes_in cells) ≡ length numbers = length-codes cells ∙ (held.each column h).many in
    let many : length (map what kept) ≡ length numbers = length-map kept what ∙ is.many in
    ext_get_or no_entry (map what kept) (entries_of (codes_in cells) numbers) (many ∙ sym (length-entries (codes_in cells) numbers codes))
    (λ k below.
    let within : k < length numbers = omega (arith, below, many) in
    let has = row-has numbers cs column k held h within in
    get_or-map what kept k no_row no_entry (omega (arith, within, is.many))
    ∙ ap₂ (λ (n m : ℕ). let e : Entry = record { enc = n; row = m } in e) (has.code ∙ sym (code-in (stored_at cs column) k (omega (arith, within, (held.each column h).many)))) has.number
    ∙ sym (entry_at (codes_in cells) numbers k no_entry (omega (arith, within, codes)) within))

pub index-seen : (numbers : List ℕ) (next : ℕ) (cs : List Stored) (column : ℕ) → AreHeld numbers cs → column < length cs → index_at column (shelf_in numbers next cs) ≡ sorted (entries_of (codes_in (stored_at cs column).cells) numbers)
unfolding index_at
index-seen numbers next cs column held h = ap sorted (entries-seen numbers next cs column held h)

-- ---- one row and one column

bodies_of-at : (number : ℕ) (kept : List Row) (at : ℕ) → IsIncreasing (kept_numbers kept) → at < length kept → get_or (kept_numbers kept) at 0 ≡ number → bodies_of number kept ≡ (get_or kept at no_row).bodies
unfolding bodies_of kept_numbers
bodies_of-at number kept at up h e = of_row-at (λ (row : Row). row.number) (λ (row : Row). row.bodies) number kept at no_row up h e

bodies_of-none : (number : ℕ) (kept : List Row) → holds number (kept_numbers kept) ≡ false → bodies_of number kept ≡ []
unfolding bodies_of kept_numbers
bodies_of-none number kept none = of_row-none (λ (row : Row). row.number) (λ (row : Row). row.bodies) number kept none

ranks_of-none : (number : ℕ) (kept : List Row) → holds number (kept_numbers kept) ≡ false → ranks_of number kept ≡ []
unfolding ranks_of kept_numbers
ranks_of-none number kept none = of_row-none (λ (row : Row). row.number) (λ (row : Row). row.ranks) number kept none

few_here : (b : Bool) (xs ys : List Body) (width : ℕ) → length xs ≡ width → length ys ≤ width → length (here_or b xs ys) ≤ width
unfolding here_or
few_here true xs ys width e h = omega (arith, e)
few_here false xs ys width e h = h

few-bodies : (width number : ℕ) (kept : List Row) → AllFull width kept → length (bodies_of number kept) ≤ width
unfolding bodies_of of_row AllFull
few-bodies width number [] full = omega arith
few-bodies width number (row ∷ kept) full = few_here (eqb row.number number) row.bodies (bodies_of number kept) width full.0 (few-bodies width number kept full.2)

code-of : (cs : List (Column Body)) (ranks : List ℕ) (i : ℕ) → i < length cs → length ranks ≡ length cs → slice_get (item_codes cs ranks) i ≡ Some (item_code (column_at cs i).tree (get_or ranks i 0))
unfolding item_codes column_at
code-of [] ranks i h e = absurd (omega (arith, h))
code-of (c ∷ cs) [] i h e = absurd (omega (arith, e))
code-of (c ∷ cs) (rank ∷ ranks) zero h e = refl
code-of (c ∷ cs) (rank ∷ ranks) (suc i) h e = code-of cs ranks i (omega (arith, h)) (omega (arith, e))

few-codes : (cs : List (Column Body)) (ranks : List ℕ) → length (item_codes cs ranks) ≤ length cs
unfolding item_codes
few-codes [] ranks = omega arith
few-codes (c ∷ cs) [] = omega arith
few-codes (c ∷ cs) (rank ∷ ranks) = omega (arith, few-codes cs ranks)

no-codes : (cs : List (Column Body)) → item_codes cs [] ≡ []
unfolding item_codes
no-codes [] = refl
no-codes (c ∷ cs) = refl

abbrev pub IsMissing : List ℕ → List Stored → ℕ → ℕ → Type 0
IsMissing numbers cs row column = (holds row numbers ≡ false) ⊎ (length cs ≤ column)

pub no-body : (numbers : List ℕ) (next : ℕ) (cs : List Stored) (row column : ℕ) → AreHeld numbers cs → IsMissing numbers cs row column → None ≡ body_at row column (shelf_in numbers next cs)
unfolding body_at shelf_in
no-body numbers next cs row column held missing =
    let kept = kept_in numbers cs in
    let is = kept-held numbers cs held in
    elim missing [
      | inl none ↦ ap (λ (bs : List Body). slice_get bs column) (sym (bodies_of-none row kept (ap (λ (ns : List ℕ). holds row ns) is.numbers_are ∙ none)))
      | inr past ↦ sym (slice_get_past (bodies_of row kept) column (omega (arith, past, few-bodies (length cs) row kept is.width)))
    ]

pub no-code : (numbers : List ℕ) (next : ℕ) (cs : List Stored) (row column : ℕ) → AreHeld numbers cs → IsMissing numbers cs row column → None ≡ code_at row column (shelf_in numbers next cs)
unfolding code_at shelf_in
no-code numbers next cs row column held missing =
    let kept = kept_in numbers cs in
    let is = kept-held numbers cs held in
    elim missing [
      | inl none ↦ ap (λ (ns : List ℕ). slice_get ns column) (sym (ap (item_codes (trees_in cs)) (ranks_of-none row kept (ap (λ (ns : List ℕ). holds row ns) is.numbers_are ∙ none)) ∙ no-codes (trees_in cs)))
      | inr past ↦ sym (slice_get_past (item_codes (trees_in cs) (ranks_of row kept)) column (omega (arith, past, few-codes (trees_in cs) (ranks_of row kept), length-trees cs)))
    ]

pub has-body : (numbers : List ℕ) (next : ℕ) (cs : List Stored) (row column : ℕ) (cell : Cell) → AreHeld numbers cs → IsIncreasing numbers → IsCellOf numbers cs row column cell → Some cell.body ≡ body_at row column (shelf_in numbers next cs)
unfolding body_at shelf_in
has-body numbers next cs row column cell held up found =
    let kept = kept_in numbers cs in
    let is = kept-held numbers cs held in
    let k = found.position in
    let within = slice_get_within numbers k row found.there in
    let in_kept : k < length kept = omega (arith, within, is.many) in
    let at : get_or (kept_numbers kept) k 0 ≡ row = ap (λ (ns : List ℕ). get_or ns k 0) is.numbers_are ∙ get_or_from_slice_get numbers k row 0 found.there in
    let bodies = bodies_of-at row kept k (subst IsIncreasing (sym is.numbers_are) up) in_kept at in
    let wide = (width-at (length cs) kept k is.width in_kept).0 in
    let one : get_or (stored_at cs column).cells k no_cell ≡ cell = get_or_from_slice_get (stored_at cs column).cells k cell no_cell found.is in
    ap (λ (b : Body). let o : Option Body = Some b in o) (sym ((row-has numbers cs column k held found.within within).body ∙ ap (λ (d : Cell). d.body) one))
    ∙ sym (slice_get-get_or (get_or kept k no_row).bodies column no_body (omega (arith, found.within, wide)))
    ∙ ap (λ (bs : List Body). slice_get bs column) (sym bodies)

pub has-code : (numbers : List ℕ) (next : ℕ) (cs : List Stored) (row column : ℕ) (cell : Cell) → AreHeld numbers cs → IsIncreasing numbers → IsCellOf numbers cs row column cell → Some cell.code ≡ code_at row column (shelf_in numbers next cs)
unfolding code_at shelf_in
has-code numbers next cs row column cell held up found =
    let kept = kept_in numbers cs in
    let is = kept-held numbers cs held in
    let k = found.position in
    let within = slice_get_within numbers k row found.there in
    let in_kept : k < length kept = omega (arith, within, is.many) in
    let at : get_or (kept_numbers kept) k 0 ≡ row = ap (λ (ns : List ℕ). get_or ns k 0) is.numbers_are ∙ get_or_from_slice_get numbers k row 0 found.there in
    let ranks = ranks_of-at row kept k (subst IsIncreasing (sym is.numbers_are) up) in_kept at in
    let wide = (width-at (length cs) kept k is.width in_kept).1 in
    let one : get_or (stored_at cs column).cells k no_cell ≡ cell = get_or_from_slice_get (stored_at cs column).cells k cell no_cell found.is in
    ap (λ (n : ℕ). let o : Option ℕ = Some n in o) (sym ((row-has numbers cs column k held found.within within).code ∙ ap (λ (d : Cell). d.code) one))
    ∙ sym (code-of (trees_in cs) (get_or kept k no_row).ranks column (omega (arith, found.within, length-trees cs)) (wide ∙ sym (length-trees cs)))
    ∙ ap (λ (ns : List ℕ). slice_get (item_codes (trees_in cs) ns) column) (sym ranks)

-- ---- the cell found

pub cell-found : (numbers : List ℕ) (cs : List Stored) (row column position : ℕ) (found : Option Cell) (c : Stored) → AreHeld numbers cs → slice_get numbers position ≡ Some row → column < length cs → c ≡ stored_at cs column → found ≡ slice_get c.cells position
    → MatchOption found (IsMissing numbers cs row column) (λ cell. IsCellOf numbers cs row column cell)
cell-found numbers cs row column position found c held there within is e =
    let cells = (stored_at cs column).cells in
    let cell = get_or cells position no_cell in
    let some : slice_get cells position ≡ Some cell = slice_get-get_or cells position no_cell (omega (arith, slice_get_within numbers position row there, (held.each column within).many)) in
    subst (λ (o : Option Cell). MatchOption o (IsMissing numbers cs row column) (λ d. IsCellOf numbers cs row column d)) (sym (e ∙ ap (λ (d : Stored). slice_get d.cells position) is ∙ some))
    (record { position = position; there = there; within = within; is = some })
