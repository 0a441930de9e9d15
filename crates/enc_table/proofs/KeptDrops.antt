-- One row fewer: the row of a number at a position.
use Rattle.std.proofs.Common.{◌≡◌, ◌≢◌, ℕ, suc, zero, ◌+◌, ◌<◌, ◌≤◌, Bool, true, false, List, [], ◌∷◌, ◌++◌, length, map, get_or, insert, remove, refl, ap, ap₂, ◌∙◌, sym, subst, arith, eqb, eq-eqb, ne_eqb}
use Rattle.std.proofs.lemmas.List.{length-map, get_or-map}
use Rattle.std.proofs.lemmas.List.Edits.{length-remove}
use Rattle.std.proofs.lemmas.List.FromFn.{length-range_with_len}
use Rattle.std.specs.List.{range_with_len}
use Rattle.mope_base.specs.declared.body.Body.{Body}
use Rattle.tree_model.specs.Trees.{size}
use Rattle.tree_model.specs.Places.{IsIncreasing, IsBelowAll, holds}
use Rattle.tree_model.specs.Columns.{Column, Operation, Drop, apply_all, items_of}
use Rattle.tree_model.specs.Sums.{origins}
use Rattle.tree_model.specs.Carried.{carried, is_origin}
use Rattle.tree_model.specs.Tallies.{tally, counts, Tallied}
use Rattle.tree_model.proofs.Ordered.{holds-at}
use Rattle.tree_model.proofs.TalliedRows.{tally-held}
use Rattle.tree_model.proofs.RankSteps.{remove-map}
use Rattle.code_changes.specs.Columns.{counts_of}
use Rattle.table_model.specs.Stores.{Kept, Shelf}
use Rattle.table_model.specs.Steps.{operate, kept_after, operated, drops}
use Rattle.table_model.specs.Changes.{here_or, without, of_row, ranks_of, kept_without, shelf_without, delete_row}
use Rattle.table_model.specs.Soundness.{kept_numbers, ranks_at, column_at}
use Rattle.table_model.specs.ShelfSoundness.{AllFull, SoundShelf, IsRanked, RowsStay}
use Rattle.table_model.specs.RankLaws.{ColumnFollows}
use Rattle.table_model.proofs.Rows.{length-operate}
use Rattle.table_model.proofs.Deleted.{rising-front}
use Rattle.table_model.proofs.ByIndex.{columns_follow, sound_has_ranks}
use Rattle.table_model.proofs.ShelfSoundOps.{operations_keep_shelf, operations_leave_rows, drops-at, range-at}
use Rattle.ope_tree.specs.Listed.{count_at}
use Rattle.enc_table.specs.declared.columns.Column.{Column as Stored}
use Rattle.enc_table.specs.Rows.{no_body}
use Rattle.enc_table.specs.Stored.{stored_at, bodies_in, ranks_in, rank_in_row, kept_in, trees_in, shelf_in}
use Rattle.enc_table.specs.Held.{IsHeld, IsDropped, FitsDrop, drop_at, followed}
use Rattle.enc_table.specs.Fields.{AreHeld, AreDropped, FitDrops}
use Rattle.enc_table.proofs.TableLists.{trees-at, length-trees}
use Rattle.enc_table.proofs.KeptRows.{bodies_at, KeptIs, same-kept, length-numbers, length-ranks_at, length-ranks}
use Rattle.enc_table.proofs.KeptSteps.{Row, kept-held, numbers-after, bodies-after, columns-after, operated-kept, same-shelf}

-- ---- the row of a number, and the others

below-at : (w : ℕ) (xs : List ℕ) (at : ℕ) → IsBelowAll w xs → at < length xs → w < get_or xs at 0
unfolding IsBelowAll
below-at w [] at least h = absurd (omega (arith, h))
below-at w (x ∷ xs) zero least h = least.0
below-at w (x ∷ xs) (suc at) least h = below-at w xs at least.1 (omega (arith, h))

past : {A : Type 0} (number_of : A → ℕ) (number : ℕ) (row : A) (rows : List A) (at : ℕ) → IsIncreasing (map number_of (row ∷ rows)) → at < length rows → get_or (map number_of rows) at 0 ≡ number → number_of row ≢ number
unfolding IsIncreasing
past number_of number row rows at up h e =
    let less : number_of row < get_or (map number_of rows) at 0 = below-at (number_of row) (map number_of rows) at up.0 (omega (arith, h, length-map rows number_of)) in
    omega (arith, less, e)

pub without-at : {A : Type 0} (number_of : A → ℕ) (number : ℕ) (rows : List A) (at : ℕ) → IsIncreasing (map number_of rows) → at < length rows → get_or (map number_of rows) at 0 ≡ number → without number_of number rows ≡ remove rows at
unfolding without here_or IsIncreasing
without-at number_of number [] at up h e = absurd (omega (arith, h))
without-at number_of number (row ∷ rows) zero up h e =
    ap (λ (b : Bool). here_or b rows (row ∷ without number_of number rows)) (eq-eqb (number_of row) number e)
without-at number_of number (row ∷ rows) (suc at) up h e =
    ap (λ (b : Bool). here_or b rows (row ∷ without number_of number rows)) (ne_eqb (number_of row) number (past number_of number row rows at up (omega (arith, h)) e))
    ∙ ap (λ (rest : List _). row ∷ rest) (without-at number_of number rows at up.1 (omega (arith, h)) e)

pub of_row-at : {A C : Type 0} (number_of : A → ℕ) (what : A → List C) (number : ℕ) (rows : List A) (at : ℕ) (d : A) → IsIncreasing (map number_of rows) → at < length rows → get_or (map number_of rows) at 0 ≡ number → of_row number_of what number rows ≡ what (get_or rows at d)
unfolding of_row here_or IsIncreasing
of_row-at number_of what number [] at d up h e = absurd (omega (arith, h))
of_row-at number_of what number (row ∷ rows) zero d up h e =
    ap (λ (b : Bool). here_or b (what row) (of_row number_of what number rows)) (eq-eqb (number_of row) number e)
of_row-at number_of what number (row ∷ rows) (suc at) d up h e =
    ap (λ (b : Bool). here_or b (what row) (of_row number_of what number rows)) (ne_eqb (number_of row) number (past number_of number row rows at up (omega (arith, h)) e))
    ∙ of_row-at number_of what number rows at d up.1 (omega (arith, h)) e

pub insert-remove : {A : Type 0} (xs : List A) (at : ℕ) (d : A) → at < length xs → insert (remove xs at) at (get_or xs at d) ≡ xs
insert-remove [] at d h = absurd (omega (arith, h))
insert-remove (x ∷ []) zero d h = refl
insert-remove (x ∷ y ∷ xs) zero d h = refl
insert-remove (x ∷ xs) (suc at) d h = ap (λ (rest : List _). x ∷ rest) (insert-remove xs at d (omega (arith, h)))

pub no_row : Row
no_row = record { number = 0; bodies = []; ranks = [] }

pub ranks_of-at : (number : ℕ) (kept : List Row) (at : ℕ) → IsIncreasing (kept_numbers kept) → at < length kept → get_or (kept_numbers kept) at 0 ≡ number → ranks_of number kept ≡ (get_or kept at no_row).ranks
unfolding ranks_of kept_numbers
ranks_of-at number kept at up h e = of_row-at (λ (row : Row). row.number) (λ (row : Row). row.ranks) number kept at no_row up h e

kept_without-at : (number : ℕ) (kept : List Row) (at : ℕ) → IsIncreasing (kept_numbers kept) → at < length kept → get_or (kept_numbers kept) at 0 ≡ number → kept_without number kept ≡ remove kept at
unfolding kept_without kept_numbers
kept_without-at number kept at up h e = without-at (λ (row : Row). row.number) number kept at up h e

pub width-at : (width : ℕ) (kept : List Row) (at : ℕ) → AllFull width kept → at < length kept → (length (get_or kept at no_row).bodies ≡ width) × (length (get_or kept at no_row).ranks ≡ width)
unfolding AllFull
width-at width [] at full h = absurd (omega (arith, h))
width-at width (row ∷ kept) zero full h = (full.0, full.1)
width-at width (row ∷ kept) (suc at) full h = width-at width kept at full.2 (omega (arith, h))

pub rank_in-row : (i at : ℕ) (kept : List Row) → at < length kept → get_or (ranks_at i kept) at 0 ≡ get_or (get_or kept at no_row).ranks i 0
unfolding ranks_at
rank_in-row i at kept h = get_or-map (λ (row : Row). get_or row.ranks i 0) kept at no_row 0 h

numbers-removed : (kept : List Row) (at : ℕ) → kept_numbers (remove kept at) ≡ remove (kept_numbers kept) at
unfolding kept_numbers
numbers-removed kept at = sym (remove-map (λ (row : Row). row.number) kept at)

ranks-removed : (i : ℕ) (kept : List Row) (at : ℕ) → ranks_at i (remove kept at) ≡ remove (ranks_at i kept) at
unfolding ranks_at
ranks-removed i kept at = sym (remove-map (λ (row : Row). get_or row.ranks i 0) kept at)

bodies-removed : (i : ℕ) (kept : List Row) (at : ℕ) → bodies_at i (remove kept at) ≡ remove (bodies_at i kept) at
unfolding bodies_at
bodies-removed i kept at = sym (remove-map (λ (row : Row). get_or row.bodies i no_body) kept at)

-- ---- the row at a position of stored rows

-- what its number tells, and what the others have
pub record GoneIs (numbers : List ℕ) (cs : List Stored) (position number : ℕ) : Type 0 where
  pub numbers_left : kept_numbers (kept_without number (kept_in numbers cs)) ≡ remove numbers position
  pub ranks_left : (i : ℕ) → i < length cs → ranks_at i (kept_without number (kept_in numbers cs)) ≡ remove (ranks_in (stored_at cs i)) position
  pub bodies_left : (i : ℕ) → i < length cs → bodies_at i (kept_without number (kept_in numbers cs)) ≡ remove (bodies_in (stored_at cs i)) position
  pub wide : length (ranks_of number (kept_in numbers cs)) ≡ length cs
  pub step : (i : ℕ) → i < length cs → get_or (drops {B = Body} (ranks_of number (kept_in numbers cs))) i [] ≡ drop_at (stored_at cs i) position

gone-rank : (kept : List Row) (cs : List Stored) (position number i : ℕ) → position < length kept → ranks_of number kept ≡ (get_or kept position no_row).ranks → ranks_at i kept ≡ ranks_in (stored_at cs i) → get_or (ranks_of number kept) i 0 ≡ rank_in_row (stored_at cs i) position
unfolding rank_in_row
gone-rank kept cs position number i h ranks are =
    ap (λ (ns : List ℕ). get_or ns i 0) ranks ∙ sym (rank_in-row i position kept h) ∙ ap (λ (ns : List ℕ). get_or ns position 0) are

pub gone-is : (numbers : List ℕ) (cs : List Stored) (position number : ℕ) → AreHeld numbers cs → IsIncreasing numbers → position < length numbers → get_or numbers position 0 ≡ number → GoneIs numbers cs position number
gone-is numbers cs position number held up h e =
    let kept = kept_in numbers cs in
    let is = kept-held numbers cs held in
    let rise : IsIncreasing (kept_numbers kept) = subst IsIncreasing (sym is.numbers_are) up in
    let within : position < length kept = omega (arith, h, is.many) in
    let at : get_or (kept_numbers kept) position 0 ≡ number = ap (λ (ns : List ℕ). get_or ns position 0) is.numbers_are ∙ e in
    let left = kept_without-at number kept position rise within at in
    let ranks = ranks_of-at number kept position rise within at in
    let many : length (ranks_of number kept) ≡ length cs = ap (λ (ns : List ℕ). length ns) ranks ∙ (width-at (length cs) kept position is.width within).1 in
    record {
      numbers_left = ap (λ (rs : List Row). kept_numbers rs) left ∙ numbers-removed kept position ∙ ap (λ (ns : List ℕ). remove ns position) is.numbers_are;
      ranks_left = λ i k. ap (λ (rs : List Row). ranks_at i rs) left ∙ ranks-removed i kept position ∙ ap (λ (ns : List ℕ). remove ns position) (is.ranks_are i k);
      bodies_left = λ i k. ap (λ (rs : List Row). bodies_at i rs) left ∙ bodies-removed i kept position ∙ ap (λ (bs : List Body). remove bs position) (is.bodies_are i k);
      wide = many;
      step = λ i k. drops-at (ranks_of number kept) i (omega (arith, k, many)) ∙ ap (λ (rank : ℕ). let d : Operation Body = Drop rank in d ∷ []) (gone-rank kept cs position number i within ranks (is.ranks_are i k));
    }

-- ---- it fits

counts-at : (c : Column Body) (rank : ℕ) → count_at c rank ≡ get_or (counts (items_of c)) rank 0
unfolding count_at counts_of counts
counts-at c rank = refl

counted : (c : Column Body) (ranks : List ℕ) (rank : ℕ) → Tallied (range_with_len 0 (size c.tree)) (counts (items_of c)) ranks → holds rank ranks ≡ true → rank < size c.tree → 0 < count_at c rank
counted c ranks rank tallied held h =
    let is : count_at c rank ≡ tally ranks rank =
    counts-at c rank ∙ ap (λ (ns : List ℕ). get_or ns rank 0) tallied.counted
    ∙ get_or-map (tally ranks) (range_with_len 0 (size c.tree)) rank 0 0 (omega (arith, h, length-range_with_len 0 (size c.tree)))
    ∙ ap (tally ranks) (range-at (size c.tree) rank h) in
    omega (arith, is, tally-held rank ranks held)

row-held : (c : Stored) (position : ℕ) → position < length (ranks_in c) → holds (rank_in_row c position) (ranks_in c) ≡ true
unfolding rank_in_row
row-held c position h = holds-at (ranks_in c) position 0 h

pub shelf-rise : (same_time : Bool) (limit next : ℕ) (numbers : List ℕ) (cs : List Stored) → SoundShelf Body same_time limit (shelf_in numbers next cs) → AreHeld numbers cs → IsIncreasing (numbers ++ next ∷ [])
unfolding shelf_in
shelf-rise same_time limit next numbers cs sound held = subst (λ (ns : List ℕ). IsIncreasing (ns ++ next ∷ [])) (kept-held numbers cs held).numbers_are sound.numbered

pub fit-drops : (same_time : Bool) (limit next : ℕ) (numbers : List ℕ) (cs : List Stored) (position number : ℕ) → SoundShelf Body same_time limit (shelf_in numbers next cs) → AreHeld numbers cs → position < length numbers → get_or numbers position 0 ≡ number
    → FitDrops same_time (remove numbers position) position number cs
unfolding shelf_in RowsStay
fit-drops same_time limit next numbers cs position number sound held h e =
    let s = shelf_in numbers next cs in
    let up : IsIncreasing numbers = rising-front numbers (next ∷ []) (shelf-rise same_time limit next numbers cs sound held) in
    let is = kept-held numbers cs held in
    let gone = gone-is numbers cs position number held up h e in
    let back : insert (remove numbers position) position number ≡ numbers = ap (λ (n : ℕ). insert (remove numbers position) position n) (sym e) ∙ insert-remove numbers position 0 h in
    let leaves = (operations_leave_rows same_time limit s sound).deletes number in
    let trees : length (trees_in cs) ≡ length cs = length-trees cs in
    record {
      each = λ i k.
          let c = stored_at cs i in
          let many : length (ranks_in c) ≡ length numbers = length-ranks c ∙ (held.each i k).many in
          let here = row-held c position (omega (arith, h, many)) in
          record {
            within = omega (arith, h, length-remove numbers position h);
            held = subst (λ (ns : List ℕ). IsHeld ns c) (sym back) (held.each i k);
            rise = subst IsIncreasing (sym back) up;
            has_row = counted c.tree.column (ranks_in c) (rank_in_row c position)
                (subst (λ (d : Column Body). Tallied (range_with_len 0 (size d.tree)) (counts (items_of d)) (ranks_in c)) (trees-at cs i)
                (subst (λ (ns : List ℕ). Tallied (range_with_len 0 (size (column_at (trees_in cs) i).tree)) (counts (items_of (column_at (trees_in cs) i))) ns) (is.ranks_are i k) (sound.columns i (omega (arith, k, trees))).tallied))
                here ((held.each i k).coded.within (rank_in_row c position) here);
            stay = λ rank there.
                subst (λ (d : Column Body). is_origin rank (origins same_time (drop_at c position) d) ≡ true) (trees-at cs i)
                (subst (λ (operations : List (Operation Body)). is_origin rank (origins same_time operations (column_at (trees_in cs) i)) ≡ true) (gone.step i k)
                (leaves i rank (omega (arith, k, trees)) (ap (λ (ns : List ℕ). holds rank ns) (gone.ranks_left i k) ∙ there)));
          };
    }

-- ---- what is left

pub delete-kept : (same_time : Bool) (number : ℕ) (s : Shelf Body) → (delete_row same_time number s).kept ≡ map (kept_after same_time (drops (ranks_of number s.kept)) s.columns) (kept_without number s.kept)
unfolding delete_row operated shelf_without
delete-kept same_time number s = refl

delete-columns : (same_time : Bool) (number : ℕ) (s : Shelf Body) → (delete_row same_time number s).columns ≡ operate same_time (drops (ranks_of number s.kept)) s.columns
unfolding delete_row operated shelf_without
delete-columns same_time number s = refl

pub delete-next : (same_time : Bool) (number : ℕ) (s : Shelf Body) → (delete_row same_time number s).next ≡ s.next
unfolding delete_row operated shelf_without
delete-next same_time number s = refl

pub delete-width : (same_time : Bool) (number : ℕ) (s : Shelf Body) → length (delete_row same_time number s).columns ≡ length s.columns
delete-width same_time number s = ap (λ (cs : List (Column Body)). length cs) (delete-columns same_time number s) ∙ length-operate same_time (drops (ranks_of number s.kept)) s.columns

pub held-dropped : (same_time : Bool) (numbers : List ℕ) (position : ℕ) (cs after : List Stored) → length after ≡ length cs → AreDropped same_time numbers position cs after → AreHeld numbers after
held-dropped same_time numbers position cs after many dropped = record { each = λ i h. (dropped.each i (omega (arith, h, many))).is.held }

delete-ranks : (same_time : Bool) (number i : ℕ) (s : Shelf Body) → IsRanked Body (shelf_without number s) → i < length s.columns
    → ranks_at i (map (kept_after same_time (drops (ranks_of number s.kept)) s.columns) (kept_without number s.kept)) ≡ map (carried (origins same_time (get_or (drops (ranks_of number s.kept)) i []) (column_at s.columns i))) (ranks_at i (kept_without number s.kept))
unfolding operated shelf_without
delete-ranks same_time number i s ranked h = (columns_follow same_time (drops (ranks_of number s.kept)) (shelf_without number s) i ranked h).ranks_are

pub deleted-shelf : (same_time : Bool) (limit next : ℕ) (numbers : List ℕ) (cs after : List Stored) (position number : ℕ) → SoundShelf Body same_time limit (shelf_in numbers next cs) → AreHeld numbers cs → position < length numbers → get_or numbers position 0 ≡ number
    → length after ≡ length cs → AreDropped same_time (remove numbers position) position cs after
    → delete_row same_time number (shelf_in numbers next cs) ≡ shelf_in (remove numbers position) next after
unfolding shelf_in
deleted-shelf same_time limit next numbers cs after position number sound held h e many dropped =
    let s = shelf_in numbers next cs in
    let steps = drops {B = Body} (ranks_of number s.kept) in
    let left = remove numbers position in
    let up : IsIncreasing numbers = rising-front numbers (next ∷ []) (shelf-rise same_time limit next numbers cs sound held) in
    let gone = gone-is numbers cs position number held up h e in
    let now = kept-held left after (held-dropped same_time left position cs after many dropped) in
    let trees : length (trees_in cs) ≡ length cs = length-trees cs in
    let result = (operations_keep_shelf same_time limit s sound).deletes number in
    let width : length (delete_row same_time number s).columns ≡ length cs = delete-width same_time number s ∙ trees in
    let ranks = sound_has_ranks same_time limit s sound in
    let rows : (delete_row same_time number s).kept ≡ kept_in left after =
    same-kept (length cs) (delete_row same_time number s).kept (kept_in left after)
    (subst (λ (n : ℕ). AllFull n (delete_row same_time number s).kept) width result.full)
    (subst (λ (n : ℕ). AllFull n (kept_in left after)) many now.width)
    (ap (λ (rs : List Row). kept_numbers rs) (delete-kept same_time number s) ∙ numbers-after same_time steps s.columns (kept_without number s.kept) ∙ gone.numbers_left ∙ sym now.numbers_are)
    (λ i k.
    ap (λ (rs : List Row). ranks_at i rs) (delete-kept same_time number s)
    ∙ delete-ranks same_time number i s (ranks.without number) (omega (arith, k, trees))
    ∙ ap₂ (λ (operations : List (Operation Body)) (c : Column Body). map (carried (origins same_time operations c)) (ranks_at i (kept_without number s.kept))) (gone.step i k) (trees-at cs i)
    ∙ ap (λ (ns : List ℕ). followed same_time (drop_at (stored_at cs i) position) (stored_at cs i).tree.column ns) (gone.ranks_left i k)
    ∙ sym (dropped.each i k).is.ranks_are
    ∙ sym (now.ranks_are i (omega (arith, k, many))))
    (λ i k.
    ap (λ (rs : List Row). bodies_at i rs) (delete-kept same_time number s) ∙ bodies-after same_time steps s.columns i (kept_without number s.kept)
    ∙ gone.bodies_left i k
    ∙ sym (dropped.each i k).is.bodies_are
    ∙ sym (now.bodies_are i (omega (arith, k, many))))
    in
    let columns : (delete_row same_time number s).columns ≡ trees_in after =
    delete-columns same_time number s
    ∙ columns-after same_time steps s after ranks.ranked (many ∙ sym trees)
    (λ i k. let j : i < length cs = omega (arith, k, trees) in
    (dropped.each i j).is.column_is
    ∙ sym (ap₂ (λ (operations : List (Operation Body)) (c : Column Body). apply_all same_time operations c) (gone.step i j) (trees-at cs i)))
    in
    same-shelf (delete_row same_time number s) (kept_in left after) next (trees_in after) rows (delete-next same_time number s) columns
