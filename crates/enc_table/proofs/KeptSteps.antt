-- The operations on the rows that stored columns tell, from what they do to each column.
use Rattle.std.proofs.Common.{◌≡◌, ℕ, suc, zero, ◌+◌, ◌<◌, ◌≤◌, Bool, true, false, List, [], ◌∷◌, ◌++◌, length, map, get_or, remove, Option, Some, None, refl, ap, ap₂, ◌∙◌, sym, subst, inl, inr, arith, eqb, eq-eqb, ne_eqb, ◌≢◌}
use Rattle.std.proofs.lemmas.List.{length-map, map-append, get_or-map, ext_get_or, length-append}
use Rattle.std.specs.Prelude.{slice_get}
use Rattle.mope_base.specs.declared.body.Body.{Body}
use Rattle.tree_model.specs.declared.Place.{Place}
use Rattle.tree_model.specs.declared.Place.TheVariants.{Found}
use Rattle.tree_model.specs.Trees.{size}
use Rattle.tree_model.specs.Places.{IsIncreasing, IsBelowAll, holds}
use Rattle.tree_model.specs.Columns.{Column, Operation, Add, Drop, Lay, empty_column, apply_all}
use Rattle.tree_model.specs.Sums.{origins}
use Rattle.tree_model.specs.Carried.{carried}
use Rattle.tree_model.proofs.RankSteps.{remove-map}
use Rattle.table_model.specs.Stores.{Kept, Shelf}
use Rattle.table_model.specs.Steps.{operate, kept_after, operated, adds, drops, only, rank_in}
use Rattle.table_model.specs.Changes.{with_kept, insert_row, here_or, without, of_row, ranks_of, kept_without, shelf_without, delete_row}
use Rattle.table_model.specs.Soundness.{kept_numbers, ranks_at, column_at}
use Rattle.table_model.specs.ShelfSoundness.{AllFull, SoundShelf, IsRanked}
use Rattle.table_model.specs.RankLaws.{ColumnFollows}
use Rattle.table_model.specs.Fitting.{AllPlaced}
use Rattle.table_model.proofs.Rows.{length-operate}
use Rattle.table_model.proofs.ByIndex.{columns_follow, sound_has_ranks}
use Rattle.table_model.proofs.ShelfSoundOps.{operations_keep_shelf, drops-at}
use Rattle.enc_table.specs.declared.columns.Column.{Column as Stored}
use Rattle.enc_table.specs.Rows.{no_body}
use Rattle.enc_table.specs.Stored.{stored_at, bodies_in, ranks_in, rank_in_row, kept_in, trees_in, shelf_in}
use Rattle.enc_table.specs.Held.{IsHeld, IsAdded, IsDropped, drop_at, followed}
use Rattle.enc_table.specs.Fields.{AreHeld, AreAdded, AreDropped, place_at, body_of}
use Rattle.enc_table.proofs.TableLists.{trees-at, length-trees, adds-at, length-adds}
use Rattle.enc_table.proofs.KeptRows.{bodies_at, AreMany, KeptIs, kept-is, same-kept, length-numbers}

abbrev pub Row : Type 0
Row = Kept Body

pub held-many : (numbers : List ℕ) (cs : List Stored) → AreHeld numbers cs → AreMany numbers cs
unfolding AreMany
held-many numbers cs held = λ i h. (held.each i h).many

pub kept-held : (numbers : List ℕ) (cs : List Stored) → AreHeld numbers cs → KeptIs numbers cs
kept-held numbers cs held = kept-is numbers cs (held-many numbers cs held)

pub same-columns : (xs ys : List (Column Body)) → length xs ≡ length ys → ((i : ℕ) → i < length xs → column_at xs i ≡ column_at ys i) → xs ≡ ys
unfolding column_at
same-columns xs ys many each = ext_get_or (empty_column Body) xs ys many each

-- ---- operations leave numbers and bodies

pub numbers-after : (same_time : Bool) (steps : List (List (Operation Body))) (cs : List (Column Body)) (kept : List Row) → kept_numbers (map (kept_after same_time steps cs) kept) ≡ kept_numbers kept
unfolding kept_numbers kept_after
numbers-after same_time steps cs [] = refl
numbers-after same_time steps cs (row ∷ kept) = ap (λ (ns : List ℕ). row.number ∷ ns) (numbers-after same_time steps cs kept)

pub bodies-after : (same_time : Bool) (steps : List (List (Operation Body))) (cs : List (Column Body)) (i : ℕ) (kept : List Row) → bodies_at i (map (kept_after same_time steps cs) kept) ≡ bodies_at i kept
unfolding bodies_at kept_after
bodies-after same_time steps cs i [] = refl
bodies-after same_time steps cs i (row ∷ kept) = ap (λ (bs : List Body). get_or row.bodies i no_body ∷ bs) (bodies-after same_time steps cs i kept)

numbers-last : (kept : List Row) (row : Row) → kept_numbers (kept ++ row ∷ []) ≡ kept_numbers kept ++ row.number ∷ []
unfolding kept_numbers
numbers-last kept row = map-append (λ (r : Row). r.number) kept (row ∷ [])

ranks-last : (i : ℕ) (kept : List Row) (row : Row) → ranks_at i (kept ++ row ∷ []) ≡ ranks_at i kept ++ get_or row.ranks i 0 ∷ []
unfolding ranks_at
ranks-last i kept row = map-append (λ (r : Row). get_or r.ranks i 0) kept (row ∷ [])

bodies-last : (i : ℕ) (kept : List Row) (row : Row) → bodies_at i (kept ++ row ∷ []) ≡ bodies_at i kept ++ get_or row.bodies i no_body ∷ []
unfolding bodies_at
bodies-last i kept row = map-append (λ (r : Row). get_or r.bodies i no_body) kept (row ∷ [])

-- ---- the columns after operations

pub columns-after : (same_time : Bool) (steps : List (List (Operation Body))) (s : Shelf Body) (after : List Stored) → IsRanked Body s → length after ≡ length s.columns
    → ((i : ℕ) → i < length s.columns → (stored_at after i).tree.column ≡ apply_all same_time (get_or steps i []) (column_at s.columns i)) → operate same_time steps s.columns ≡ trees_in after
unfolding operated
columns-after same_time steps s after ranked many each =
    let wide : length (operate same_time steps s.columns) ≡ length s.columns = length-operate same_time steps s.columns in
    same-columns (operate same_time steps s.columns) (trees_in after) (wide ∙ sym many ∙ sym (length-trees after))
    (λ i h. let k : i < length s.columns = omega (arith, h, wide) in
    (columns_follow same_time steps s i ranked k).column_is ∙ sym (each i k) ∙ sym (trees-at after i))

-- ---- one row more

abbrev new_row : ℕ → List Place → List Body → Row
new_row next places bodies = record { number = next; bodies = bodies; ranks = map rank_in places }

insert-kept : (same_time : Bool) (places : List Place) (bodies : List Body) (s : Shelf Body) → (insert_row same_time places bodies s).kept ≡ (operated same_time (adds places bodies) s).kept ++ new_row s.next places bodies ∷ []
unfolding insert_row with_kept operated
insert-kept same_time places bodies s = refl

insert-columns : (same_time : Bool) (places : List Place) (bodies : List Body) (s : Shelf Body) → (insert_row same_time places bodies s).columns ≡ operate same_time (adds places bodies) s.columns
unfolding insert_row with_kept operated
insert-columns same_time places bodies s = refl

insert-next : (same_time : Bool) (places : List Place) (bodies : List Body) (s : Shelf Body) → (insert_row same_time places bodies s).next ≡ suc s.next
unfolding insert_row with_kept operated
insert-next same_time places bodies s = refl

pub operated-kept : (same_time : Bool) (steps : List (List (Operation Body))) (s : Shelf Body) → (operated same_time steps s).kept ≡ map (kept_after same_time steps s.columns) s.kept
unfolding operated
operated-kept same_time steps s = refl

pub same-shelf : (s : Shelf Body) (kept : List Row) (next : ℕ) (columns : List (Column Body)) → s.kept ≡ kept → s.next ≡ next → s.columns ≡ columns → s ≡ record { kept = kept; next = next; columns = columns }
same-shelf s kept next columns k n c =
    ap (λ (m : ℕ). let t : Shelf Body = record { kept = s.kept; next = m; columns = s.columns } in t) n
    ∙ ap₂ (λ (rows : List Row) (cs : List (Column Body)). let t : Shelf Body = record { kept = rows; next = next; columns = cs } in t) k c

pub held-added : (same_time : Bool) (numbers : List ℕ) (next : ℕ) (places : List Place) (bodies : List Body) (cs after : List Stored) → length after ≡ length cs → AreAdded same_time numbers next places bodies cs after → AreHeld (numbers ++ next ∷ []) after
held-added same_time numbers next places bodies cs after many added = record { each = λ i h. (added.each i (omega (arith, h, many))).is.held }

rank-of : (places : List Place) (i : ℕ) → i < length places → get_or (map rank_in places) i 0 ≡ rank_in (place_at places i)
rank-of places i h = get_or-map rank_in places i (Found 0) 0 h

pub inserted-shelf : (same_time : Bool) (limit next : ℕ) (numbers : List ℕ) (cs after : List Stored) (places : List Place) (bodies : List Body)
    → SoundShelf Body same_time limit (shelf_in numbers next cs) → AreHeld numbers cs → AllPlaced (trees_in cs) places → length places ≡ length cs → length bodies ≡ length cs → length numbers < limit
    → length after ≡ length cs → AreAdded same_time numbers next places bodies cs after
    → insert_row same_time places bodies (shelf_in numbers next cs) ≡ shelf_in (numbers ++ next ∷ []) (suc next) after
unfolding shelf_in
inserted-shelf same_time limit next numbers cs after places bodies sound held placed wide_places wide room many added =
    let s = shelf_in numbers next cs in
    let steps = adds places bodies in
    let t = operated same_time steps s in
    let row = new_row next places bodies in
    let before = kept-held numbers cs held in
    let now = kept-held (numbers ++ next ∷ []) after (held-added same_time numbers next places bodies cs after many added) in
    let trees : length (trees_in cs) ≡ length cs = length-trees cs in
    let result = (operations_keep_shelf same_time limit s sound).inserts places bodies placed (wide ∙ sym trees) (omega (arith, room, before.many)) in
    let width : length (insert_row same_time places bodies s).columns ≡ length cs = ap (λ (ds : List (Column Body)). length ds) (insert-columns same_time places bodies s) ∙ length-operate same_time steps (trees_in cs) ∙ trees in
    let ranked = (sound_has_ranks same_time limit s sound).ranked in
    let step : (i : ℕ) → i < length cs → get_or steps i [] ≡ Add (place_at places i) (body_of bodies i) ∷ [] = λ (i : ℕ) (h : i < length cs). adds-at places bodies i (omega (arith, h, wide_places)) (omega (arith, h, wide)) in
    let follows : (i : ℕ) → i < length cs → ColumnFollows Body same_time steps s i = λ (i : ℕ) (h : i < length cs). columns_follow same_time steps s i ranked (omega (arith, h, trees)) in
    let rows : (insert_row same_time places bodies s).kept ≡ kept_in (numbers ++ next ∷ []) after =
    same-kept (length cs) (insert_row same_time places bodies s).kept (kept_in (numbers ++ next ∷ []) after)
    (subst (λ (n : ℕ). AllFull n (insert_row same_time places bodies s).kept) width result.full)
    (subst (λ (n : ℕ). AllFull n (kept_in (numbers ++ next ∷ []) after)) many now.width)
    (ap (λ (rs : List Row). kept_numbers rs) (insert-kept same_time places bodies s) ∙ numbers-last t.kept row
    ∙ ap (λ (ns : List ℕ). ns ++ next ∷ []) (ap (λ (rs : List Row). kept_numbers rs) (operated-kept same_time steps s) ∙ numbers-after same_time steps s.columns s.kept ∙ before.numbers_are)
    ∙ sym now.numbers_are)
    (λ i h.
    ap (λ (rs : List Row). ranks_at i rs) (insert-kept same_time places bodies s) ∙ ranks-last i t.kept row
    ∙ ap₂ (λ (ns : List ℕ) (n : ℕ). ns ++ n ∷ [])
    ((follows i h).ranks_are
    ∙ ap₂ (λ (operations : List (Operation Body)) (c : Column Body). map (carried (origins same_time operations c)) (ranks_at i s.kept)) (step i h) (trees-at cs i)
    ∙ ap (λ (ns : List ℕ). map (carried (origins same_time (Add (place_at places i) (body_of bodies i) ∷ []) (stored_at cs i).tree.column)) ns) (before.ranks_are i h))
    (rank-of places i (omega (arith, h, wide_places)))
    ∙ sym (added.each i h).is.ranks_are
    ∙ sym (now.ranks_are i (omega (arith, h, many))))
    (λ i h.
    ap (λ (rs : List Row). bodies_at i rs) (insert-kept same_time places bodies s) ∙ bodies-last i t.kept row
    ∙ ap (λ (bs : List Body). bs ++ body_of bodies i ∷ []) (ap (λ (rs : List Row). bodies_at i rs) (operated-kept same_time steps s) ∙ bodies-after same_time steps s.columns i s.kept ∙ before.bodies_are i h)
    ∙ sym (added.each i h).is.bodies_are
    ∙ sym (now.bodies_are i (omega (arith, h, many))))
    in
    let columns : (insert_row same_time places bodies s).columns ≡ trees_in after =
    insert-columns same_time places bodies s
    ∙ columns-after same_time steps s after ranked (many ∙ sym trees)
    (λ i h. let k : i < length cs = omega (arith, h, trees) in
    (added.each i k).is.column_is
    ∙ sym (ap₂ (λ (operations : List (Operation Body)) (c : Column Body). apply_all same_time operations c) (step i k) (trees-at cs i)))
    in
    same-shelf (insert_row same_time places bodies s) (kept_in (numbers ++ next ∷ []) after) (suc next) (trees_in after) rows (insert-next same_time places bodies s) columns
