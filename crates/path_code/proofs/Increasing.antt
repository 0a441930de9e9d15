-- Each list of codes of a sum increases.
use Rattle.std.proofs.Common.{ℕ, suc, zero, ◌+◌, ◌<◌, ◌≤◌, Bool, true, false, eqb, List, [], ◌∷◌, length, map, Option, Some, None, arith}
use Rattle.std.specs.List.{range_with_len}
use Rattle.tree_model.specs.declared.Place.TheVariants.{Found}
use Rattle.tree_model.specs.Trees.{Tree, size, height}
use Rattle.tree_model.specs.Places.{number, IsBelowAll, IsIncreasing}
use Rattle.tree_model.specs.Columns.{Column, Operation, apply_all}
use Rattle.tree_model.specs.Sums.{origins, IsRising}
use Rattle.tree_model.proofs.Risen.{origins-rising}
use Rattle.tree_model.proofs.Summed.{length-origins}
use Rattle.path_code.specs.Codes.{code_of}
use Rattle.path_code.specs.declared.moves.Recode.{Recode}
use Rattle.tree_model.specs.Carried.{is_origin}
use Rattle.path_code.specs.Sums.{item_code, unless, moved_codes, added_codes, dropped_codes, sum_by_origins, sum_of}
use Rattle.path_code.specs.SumLaws.{Increase}
use Rattle.path_code.proofs.Rising.{codes_rise}

pub item_code-lt : {A : Type 0} (t : Tree A) (j k : ℕ) → height t ≤ 63 → j < k → k < size t → item_code t j < item_code t k
unfolding item_code code_of number
item_code-lt t j k high lt within = codes_rise 63 t (Found j) (Found k) high (omega arith) (omega arith)

-- ---- a list with one more in front, or not

below-unless : {A : Type 0} (f : A → ℕ) (v : ℕ) (b : Bool) (x : A) (rest : List A) → v < f x → IsBelowAll v (map f rest) → IsBelowAll v (map f (unless b x rest))
unfolding unless IsBelowAll
below-unless f v true x rest lt all = all
below-unless f v false x rest lt all = (lt, all)

up-unless : {A : Type 0} (f : A → ℕ) (b : Bool) (x : A) (rest : List A) → IsBelowAll (f x) (map f rest) → IsIncreasing (map f rest) → IsIncreasing (map f (unless b x rest))
unfolding unless IsIncreasing
up-unless f true x rest all up = up
up-unless f false x rest all up = (all, up)

below_one : (v : ℕ) (b : Bool) (x : ℕ) (rest : List ℕ) → v < x → IsBelowAll v rest → IsBelowAll v (unless b x rest)
unfolding unless IsBelowAll
below_one v true x rest lt all = all
below_one v false x rest lt all = (lt, all)

up_one : (b : Bool) (x : ℕ) (rest : List ℕ) → IsBelowAll x rest → IsIncreasing rest → IsIncreasing (unless b x rest)
unfolding unless IsIncreasing
up_one true x rest all up = up
up_one false x rest all up = (all, up)

-- ---- the old codes of the pairs

olds-above : {A B : Type 0} (t : Tree A) (u : Tree B) (high : height t ≤ 63) (rank low j : ℕ) (from : List (Option ℕ)) → j < low → IsRising low (size t) from → IsBelowAll (item_code t j) (map (λ r. r.old) (moved_codes t u rank from))
unfolding moved_codes IsRising IsBelowAll
olds-above t u high rank low j [] lt up = tt
olds-above t u high rank low j (None ∷ from) lt up = olds-above t u high (suc rank) low j from lt up
olds-above t u high rank low j (Some k ∷ from) lt up =
    below-unless (λ (r : Recode). r.old) (item_code t j) (eqb (item_code t k) (item_code u rank)) _ _
    (item_code-lt t j k high (omega (arith, up.0)) up.1)
    (olds-above t u high (suc rank) (suc k) j from (omega (arith, up.0)) up.2)

olds-up : {A B : Type 0} (t : Tree A) (u : Tree B) (high : height t ≤ 63) (rank low : ℕ) (from : List (Option ℕ)) → IsRising low (size t) from → IsIncreasing (map (λ r. r.old) (moved_codes t u rank from))
unfolding moved_codes IsRising IsIncreasing
olds-up t u high rank low [] up = tt
olds-up t u high rank low (None ∷ from) up = olds-up t u high (suc rank) low from up
olds-up t u high rank low (Some k ∷ from) up =
    up-unless (λ (r : Recode). r.old) (eqb (item_code t k) (item_code u rank)) _ _
    (olds-above t u high (suc rank) (suc k) k from (omega arith) up.2)
    (olds-up t u high (suc rank) (suc k) from up.2)

-- ---- the new codes of the pairs

news-above : {A B : Type 0} (t : Tree A) (u : Tree B) (high : height u ≤ 63) (rank j : ℕ) (from : List (Option ℕ)) → j < rank → rank + length from ≤ size u → IsBelowAll (item_code u j) (map (λ r. r.new) (moved_codes t u rank from))
unfolding moved_codes IsBelowAll
news-above t u high rank j [] lt within = tt
news-above t u high rank j (None ∷ from) lt within = news-above t u high (suc rank) j from (omega arith) (omega arith)
news-above t u high rank j (Some k ∷ from) lt within =
    below-unless (λ (r : Recode). r.new) (item_code u j) (eqb (item_code t k) (item_code u rank)) _ _
    (item_code-lt u j rank high lt (omega arith))
    (news-above t u high (suc rank) j from (omega arith) (omega arith))

news-up : {A B : Type 0} (t : Tree A) (u : Tree B) (high : height u ≤ 63) (rank : ℕ) (from : List (Option ℕ)) → rank + length from ≤ size u → IsIncreasing (map (λ r. r.new) (moved_codes t u rank from))
unfolding moved_codes IsIncreasing
news-up t u high rank [] within = tt
news-up t u high rank (None ∷ from) within = news-up t u high (suc rank) from (omega arith)
news-up t u high rank (Some k ∷ from) within =
    up-unless (λ (r : Recode). r.new) (eqb (item_code t k) (item_code u rank)) _ _
    (news-above t u high (suc rank) rank from (omega arith) (omega arith))
    (news-up t u high (suc rank) from (omega arith))

-- ---- the codes of new items

added-above : {B : Type 0} (u : Tree B) (high : height u ≤ 63) (rank j : ℕ) (from : List (Option ℕ)) → j < rank → rank + length from ≤ size u → IsBelowAll (item_code u j) (added_codes u rank from)
unfolding added_codes IsBelowAll
added-above u high rank j [] lt within = tt
added-above u high rank j (None ∷ from) lt within = (item_code-lt u j rank high lt (omega arith), added-above u high (suc rank) j from (omega arith) (omega arith))
added-above u high rank j (Some k ∷ from) lt within = added-above u high (suc rank) j from (omega arith) (omega arith)

added-up : {B : Type 0} (u : Tree B) (high : height u ≤ 63) (rank : ℕ) (from : List (Option ℕ)) → rank + length from ≤ size u → IsIncreasing (added_codes u rank from)
unfolding added_codes IsIncreasing
added-up u high rank [] within = tt
added-up u high rank (None ∷ from) within = (added-above u high (suc rank) rank from (omega arith) (omega arith), added-up u high (suc rank) from (omega arith))
added-up u high rank (Some k ∷ from) within = added-up u high (suc rank) from (omega arith)

-- ---- the codes that are given up

dropped-above : {A : Type 0} (t : Tree A) (high : height t ≤ 63) (from : List (Option ℕ)) (first count j : ℕ) → j < first → first + count ≤ size t → IsBelowAll (item_code t j) (dropped_codes t from (range_with_len first count))
unfolding dropped_codes IsBelowAll
dropped-above t high from first zero j lt within = tt
dropped-above t high from first (suc count) j lt within =
    below_one (item_code t j) (is_origin first from) (item_code t first) (dropped_codes t from (range_with_len (first + 1) count))
    (item_code-lt t j first high lt (omega arith))
    (dropped-above t high from (first + 1) count j (omega arith) (omega arith))

dropped-up : {A : Type 0} (t : Tree A) (high : height t ≤ 63) (from : List (Option ℕ)) (first count : ℕ) → first + count ≤ size t → IsIncreasing (dropped_codes t from (range_with_len first count))
unfolding dropped_codes IsIncreasing
dropped-up t high from first zero within = tt
dropped-up t high from first (suc count) within =
    up_one (is_origin first from) (item_code t first) (dropped_codes t from (range_with_len (first + 1) count))
    (dropped-above t high from (first + 1) count first (omega arith) (omega arith))
    (dropped-up t high from (first + 1) count (omega arith))

pub sums_increase : {B : Type 0} (same_time : Bool) (operations : List (Operation B)) (c : Column B) → height c.tree ≤ 63 → height (apply_all same_time operations c).tree ≤ 63 → Increase (sum_of same_time operations c)
unfolding sum_of sum_by_origins
sums_increase same_time operations c high_before high_after =
    let t = c.tree in
    let u = (apply_all same_time operations c).tree in
    let from = origins same_time operations c in
    let many : 0 + length from ≤ size u = omega (arith, length-origins same_time operations c) in
    let rising = origins-rising same_time operations c in
    record {
      old = olds-up t u high_before 0 0 from rising;
      new = news-up t u high_after 0 from many;
      dropped = dropped-up t high_before from 0 (size t) (omega arith);
      added = added-up u high_after 0 from many;
    }
