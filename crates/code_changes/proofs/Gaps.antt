-- A new item at a gap: the other items stay in order, and the new one's code and count stand among theirs.
use Rattle.std.proofs.Common.{◌≡◌, ℕ, suc, zero, ◌≤◌, Bool, ◌||◌, eqb, List, [], ◌∷◌, length, map, get_or, insert, Option, Some, None, refl, ap, ◌∙◌, sym, arith}
use Rattle.std.specs.List.{range_with_len}
use Rattle.std.proofs.lemmas.List.FromFn.{length-range_with_len}
use Rattle.std.proofs.lemmas.List.{length-map}
use Rattle.tree_model.specs.declared.Place.TheVariants.{Gap}
use Rattle.tree_model.specs.Trees.{Tree, size}
use Rattle.tree_model.specs.Places.{holds}
use Rattle.tree_model.specs.Columns.{Column, add, Add, apply, apply_all}
use Rattle.tree_model.specs.Sums.{origins}
use Rattle.tree_model.proofs.Summed.{origins-gap, length-origins}
use Rattle.tree_model.specs.Carried.{is_origin}
use Rattle.path_code.specs.Sums.{item_code, moved_codes, added_codes, dropped_codes, sum_by_origins, sum_of}
use Rattle.code_changes.specs.Changes.{differing, with_rows, without_rows}
use Rattle.code_changes.specs.Columns.{codes_of}
use Rattle.code_changes.specs.Laws.{AddsItem}
use Rattle.code_changes.proofs.Lists.{holds-ranks}
use Rattle.code_changes.proofs.ItemCodes.{length-codes_of, get_or-codes_of}
use Rattle.code_changes.proofs.Origins.{has_origin, marks, origin_ranks, length-with_marks}
use Rattle.code_changes.proofs.Leading.{same_sum, moved-marks, added-marks}
use Rattle.code_changes.proofs.Staying.{origin_ranks-all, with-all, is_origin-all, dropped-all}
use Rattle.code_changes.proofs.Counts.{counts_of-gap}

-- ---- one new item among others that stay

with_new : List ℕ → ℕ → List (Option ℕ)
with_new ranks rank = insert (map Some ranks) rank None

origin_ranks-new : (ranks : List ℕ) (rank : ℕ) → origin_ranks (with_new ranks rank) ≡ ranks
unfolding with_new origin_ranks
origin_ranks-new ranks zero = origin_ranks-all ranks
origin_ranks-new [] (suc rank) = refl
origin_ranks-new (k ∷ ranks) (suc rank) = ap (λ (ks : List ℕ). k ∷ ks) (origin_ranks-new ranks rank)

is_origin-new : (k : ℕ) (ranks : List ℕ) (rank : ℕ) → is_origin k (with_new ranks rank) ≡ holds k ranks
unfolding with_new is_origin holds
is_origin-new k ranks zero = is_origin-all k ranks
is_origin-new k [] (suc rank) = refl
is_origin-new k (j ∷ ranks) (suc rank) = ap (λ (b : Bool). eqb j k || b) (is_origin-new k ranks rank)

-- a list is what stands beside the others, with what stands beside the new one put in
with-new : {A : Type 0} (ranks : List ℕ) (rank : ℕ) (xs : List A) (d : A) → rank ≤ length ranks → length xs ≡ suc (length ranks) → xs ≡ insert (with_rows (marks (with_new ranks rank)) xs) rank (get_or xs rank d)
unfolding with_new marks has_origin with_rows
with-new ranks rank [] d within many = absurd (omega arith)
with-new ranks zero (x ∷ xs) d within many = ap (λ (ys : List _). x ∷ ys) (sym (with-all ranks xs (omega arith)))
with-new [] (suc rank) (x ∷ xs) d within many = absurd (omega arith)
with-new (k ∷ ranks) (suc rank) (x ∷ xs) d within many = ap (λ (ys : List _). x ∷ ys) (with-new ranks rank xs d (omega arith) (omega arith))

without-all : {A : Type 0} (ranks : List ℕ) (xs : List A) → without_rows (marks (map Some ranks)) xs ≡ []
unfolding marks has_origin without_rows
without-all [] xs = refl
without-all (k ∷ ranks) [] = refl
without-all (k ∷ ranks) (x ∷ xs) = without-all ranks xs

without-new : {A : Type 0} (ranks : List ℕ) (rank : ℕ) (xs : List A) (d : A) → rank ≤ length ranks → length xs ≡ suc (length ranks) → without_rows (marks (with_new ranks rank)) xs ≡ get_or xs rank d ∷ []
unfolding with_new marks has_origin without_rows
without-new ranks rank [] d within many = absurd (omega arith)
without-new ranks zero (x ∷ xs) d within many = ap (λ (ys : List _). x ∷ ys) (without-all ranks xs)
without-new [] (suc rank) (x ∷ xs) d within many = absurd (omega arith)
without-new (k ∷ ranks) (suc rank) (x ∷ xs) d within many = without-new ranks rank xs d (omega arith) (omega arith)

-- ---- the sum

sum-new : {A B : Type 0} (t : Tree A) (u : Tree B) (rank : ℕ) → rank ≤ size t → size u ≡ suc (size t) → length (with_new (range_with_len 0 (size t)) rank) ≡ size u → sum_by_origins t u (with_new (range_with_len 0 (size t)) rank) ≡ record { moved = differing (codes_of t) (with_rows (marks (with_new (range_with_len 0 (size t)) rank)) (codes_of u)); dropped = []; added = item_code u rank ∷ [] }
unfolding sum_by_origins codes_of
sum-new t u rank within more many =
    let ranks = range_with_len 0 (size t) in
    let from = with_new ranks rank in
    let long = length-range_with_len 0 (size t) in
    let codes = length-codes_of u in
    same_sum (moved_codes t u 0 from) (differing (codes_of t) (with_rows (marks from) (codes_of u))) (dropped_codes t from ranks) [] (added_codes u 0 from) (item_code u rank ∷ [])
    (moved-marks t u from many ∙ ap (λ (ks : List ℕ). differing (map (item_code t) ks) (with_rows (marks from) (codes_of u))) (origin_ranks-new ranks rank))
    (dropped-all t from (λ k lt. is_origin-new k ranks rank ∙ holds-ranks k 0 (size t) (omega arith) (omega arith)))
    (added-marks u from many
    ∙ without-new ranks rank (codes_of u) 0 (omega arith) (omega arith)
    ∙ ap (λ (code : ℕ). code ∷ []) (get_or-codes_of u rank 0 (omega arith)))

-- ---- the law

origins-new : {B : Type 0} (same_time : Bool) (rank : ℕ) (b : B) (c : Column B) → origins same_time (Add (Gap rank) b ∷ []) c ≡ with_new (range_with_len 0 (size c.tree)) rank
unfolding with_new
origins-new same_time rank b c = origins-gap same_time rank b c

length-new : {B : Type 0} (same_time : Bool) (rank : ℕ) (b : B) (c : Column B) → length (with_new (range_with_len 0 (size c.tree)) rank) ≡ size (add (Gap rank) b c).tree
unfolding apply_all apply
length-new same_time rank b c = ap length (sym (origins-new same_time rank b c)) ∙ length-origins same_time (Add (Gap rank) b ∷ []) c

length-with_new : (ranks : List ℕ) (rank : ℕ) → length (with_new ranks rank) ≡ suc (length ranks)
unfolding with_new
length-with_new ranks zero = ap suc (length-map ranks Some)
length-with_new [] (suc rank) = refl
length-with_new (k ∷ ranks) (suc rank) = ap suc (length-with_new ranks rank)

pub gap_adds_item : {B : Type 0} (same_time : Bool) (rank : ℕ) (b : B) (c : Column B) → rank ≤ size c.tree → AddsItem B rank (sum_of same_time (Add (Gap rank) b ∷ []) c) c (add (Gap rank) b c)
unfolding sum_of apply_all apply
gap_adds_item same_time rank b c within =
    let t = c.tree in
    let u = (add (Gap rank) b c).tree in
    let ranks = range_with_len 0 (size t) in
    let from = with_new ranks rank in
    let long = length-range_with_len 0 (size t) in
    let many = length-new same_time rank b c in
    let more : size u ≡ suc (size t) = omega (arith, length-with_new ranks rank) in
    let codes_u = length-codes_of u in
    record {
      kept = with_rows (marks from) (codes_of u);
      code = item_code u rank;
      as_many = length-with_marks from (codes_of u) (omega arith) ∙ ap length (origin_ranks-new ranks rank) ∙ long ∙ sym (length-codes_of t);
      codes =
          with-new ranks rank (codes_of u) 0 (omega arith) (omega arith)
          ∙ ap (insert (with_rows (marks from) (codes_of u)) rank) (get_or-codes_of u rank 0 (omega arith));
      counts = counts_of-gap rank b c;
      sum = ap (λ (o : List (Option ℕ)). sum_by_origins t u o) (origins-new same_time rank b c) ∙ sum-new t u rank within more many;
    }
