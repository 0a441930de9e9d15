-- The rows that pass, test by test and row by row.
use Rattle.std.proofs.Common.{◌≡◌, sym, ◌∙◌, ap, ℕ, ◌+◌, ◌<◌, ◌≤◌, Bool, true, false, ◌&&◌, cond, List, [], ◌∷◌, ◌++◌, map, filter, drop, length, get_or, if◌then◌else◌}
use Rattle.std.proofs.lemmas.List.{at_drop_more, at_drop_all, append_assoc, append-nil, map-append}
use Rattle.mope_base.specs.declared.numbers.ColNo.{ColNo}
use Rattle.sql_text.specs.declared.Test.{Test}
use Rattle.workload.specs.declared.plain.PlainRow.{PlainRow}
use Rattle.workload.specs.Selection.{meets, passes}
use Rattle.workload.specs.Outcome.{value_at}
use Rattle.plain_db.specs.Positions.{no_row, row_at, rows_at}

passes-step : (tests : List (ColNo × Test)) (row : PlainRow) (i : ℕ) (d : ColNo × Test) → i < length tests
    → passes value_at (drop i tests) row ≡ (meets (get_or tests i d).1 (value_at (get_or tests i d).0 row) && passes value_at (drop (i + 1) tests) row)
unfolding passes
passes-step tests row i d within = at_drop_more (λ l. passes value_at l row) tests i d within

pub passes_not : (tests : List (ColNo × Test)) (row : PlainRow) (i : ℕ) (d : ColNo × Test) (v : ℕ) → i < length tests
    → passes value_at (drop i tests) row ≡ passes value_at tests row
    → v ≡ value_at (get_or tests i d).0 row → false ≡ meets (get_or tests i d).1 v → false ≡ passes value_at tests row
passes_not tests row i d v within whole value fails =
    ap (λ b. b && passes value_at (drop (i + 1) tests) row) (fails ∙ ap (λ x. meets (get_or tests i d).1 x) value)
    ∙ sym (passes-step tests row i d within) ∙ whole

pub passes_on : (tests : List (ColNo × Test)) (row : PlainRow) (i : ℕ) (d : ColNo × Test) (v : ℕ) → i < length tests
    → passes value_at (drop i tests) row ≡ passes value_at tests row
    → v ≡ value_at (get_or tests i d).0 row → true ≡ meets (get_or tests i d).1 v
    → passes value_at (drop (i + 1) tests) row ≡ passes value_at tests row
passes_on tests row i d v within whole value meets_it =
    ap (λ b. b && passes value_at (drop (i + 1) tests) row) (meets_it ∙ ap (λ x. meets (get_or tests i d).1 x) value)
    ∙ sym (passes-step tests row i d within) ∙ whole

pub passes_end : (tests : List (ColNo × Test)) (row : PlainRow) (i : ℕ) → length tests ≤ i
    → passes value_at (drop i tests) row ≡ passes value_at tests row → true ≡ passes value_at tests row
unfolding passes
passes_end tests row i past whole = sym (at_drop_all (λ l. passes value_at l row) tests i past) ∙ whole

-- the positions of the rows that pass, with that of one more where it passes
pub found_more : (rows : List PlainRow) (p : PlainRow → Bool) (found next : List ℕ) (i : ℕ) (b : Bool) → i < length rows
    → rows_at rows found ++ filter p (drop i rows) ≡ filter p rows
    → b ≡ p (row_at rows i) → next ≡ found ++ (if b then i ∷ [] else [])
    → rows_at rows next ++ filter p (drop (i + 1) rows) ≡ filter p rows
unfolding rows_at row_at
found_more rows p found next i b within whole passed pushed =
    let row : PlainRow = get_or rows i no_row in
    ap (λ l. map (λ k. get_or rows k no_row) l ++ filter p (drop (i + 1) rows)) pushed
    ∙ ap (λ l. l ++ filter p (drop (i + 1) rows)) (map-append (λ k. get_or rows k no_row) found (if b then i ∷ [] else []))
    ∙ append_assoc (map (λ k. get_or rows k no_row) found) (map (λ k. get_or rows k no_row) (if b then i ∷ [] else [])) (filter p (drop (i + 1) rows))
    ∙ ap (λ l. map (λ k. get_or rows k no_row) found ++ l) (front b passed ∙ sym (at_drop_more (λ l. filter p l) rows i no_row within))
    ∙ whole
  where
    front : (b : Bool) → b ≡ p (get_or rows i no_row)
        → map (λ k. get_or rows k no_row) (if b then i ∷ [] else []) ++ filter p (drop (i + 1) rows)
        ≡ cond (p (get_or rows i no_row)) (get_or rows i no_row ∷ filter p (drop (i + 1) rows)) (filter p (drop (i + 1) rows))
    front true e = ap (λ c. cond c (get_or rows i no_row ∷ filter p (drop (i + 1) rows)) (filter p (drop (i + 1) rows))) e
    front false e = ap (λ c. cond c (get_or rows i no_row ∷ filter p (drop (i + 1) rows)) (filter p (drop (i + 1) rows))) e

pub found_all : (rows : List PlainRow) (p : PlainRow → Bool) (found : List ℕ) (i : ℕ) → length rows ≤ i
    → rows_at rows found ++ filter p (drop i rows) ≡ filter p rows → rows_at rows found ≡ filter p rows
found_all rows p found i past whole =
    sym (append-nil (rows_at rows found)) ∙ ap (λ l. rows_at rows found ++ l) (sym (at_drop_all (λ l. filter p l) rows i past)) ∙ whole

-- copies of the rows that pass, with one more where it passes
pub copied_more : (rows : List PlainRow) (p : PlainRow → Bool) (copies next : List PlainRow) (i : ℕ) (row : PlainRow) (b : Bool) → i < length rows
    → copies ++ filter p (drop i rows) ≡ filter p rows → row ≡ get_or rows i row
    → b ≡ p row → next ≡ copies ++ (if b then row ∷ [] else [])
    → next ++ filter p (drop (i + 1) rows) ≡ filter p rows
copied_more rows p copies next i row b within whole here passed pushed =
    ap (λ l. l ++ filter p (drop (i + 1) rows)) pushed
    ∙ append_assoc copies (if b then row ∷ [] else []) (filter p (drop (i + 1) rows))
    ∙ ap (λ l. copies ++ l) (front b passed ∙ ap (λ r. cond (p r) (r ∷ filter p (drop (i + 1) rows)) (filter p (drop (i + 1) rows))) here
    ∙ sym (at_drop_more (λ l. filter p l) rows i row within))
    ∙ whole
  where
    front : (b : Bool) → b ≡ p row
        → (if b then row ∷ [] else []) ++ filter p (drop (i + 1) rows) ≡ cond (p row) (row ∷ filter p (drop (i + 1) rows)) (filter p (drop (i + 1) rows))
    front true e = ap (λ c. cond c (row ∷ filter p (drop (i + 1) rows)) (filter p (drop (i + 1) rows))) e
    front false e = ap (λ c. cond c (row ∷ filter p (drop (i + 1) rows)) (filter p (drop (i + 1) rows))) e

pub copied_all : (rows : List PlainRow) (p : PlainRow → Bool) (copies : List PlainRow) (i : ℕ) → length rows ≤ i
    → copies ++ filter p (drop i rows) ≡ filter p rows → copies ≡ filter p rows
copied_all rows p copies i past whole =
    sym (append-nil copies) ∙ ap (λ l. copies ++ l) (sym (at_drop_all (λ l. filter p l) rows i past)) ∙ whole
