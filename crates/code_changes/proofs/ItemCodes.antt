-- The codes of a tree's items: as many as items, and increasing.
use Rattle.std.proofs.Common.{◌≡◌, ℕ, suc, zero, ◌+◌, ◌<◌, ◌≤◌, length, map, get_or, arith}
use Rattle.std.specs.List.{range_with_len}
use Rattle.std.proofs.lemmas.List.FromFn.{length-map-range_with_len, get_or-map-range_with_len}
use Rattle.tree_model.specs.Trees.{Tree, size, height}
use Rattle.tree_model.specs.Places.{IsBelowAll, IsIncreasing}
use Rattle.path_code.specs.Sums.{item_code}
use Rattle.path_code.proofs.Increasing.{item_code-lt}
use Rattle.code_changes.specs.Columns.{codes_of}
use Rattle.code_changes.specs.Laws.{Codes}

pub length-codes_of : {A : Type 0} (t : Tree A) → length (codes_of t) ≡ size t
unfolding codes_of
length-codes_of t = length-map-range_with_len (item_code t) 0 (size t)

-- the code at a rank
pub get_or-codes_of : {A : Type 0} (t : Tree A) (k d : ℕ) → k < size t → get_or (codes_of t) k d ≡ item_code t k
unfolding codes_of
get_or-codes_of t k d h = get_or-map-range_with_len (item_code t) 0 (size t) k k d h (omega arith)

codes-above : {A : Type 0} (t : Tree A) → height t ≤ 63 → (j first count : ℕ) → j < first → first + count ≤ size t → IsBelowAll (item_code t j) (map (item_code t) (range_with_len first count))
unfolding IsBelowAll
codes-above t high j first zero lt within = tt
codes-above t high j first (suc count) lt within = (item_code-lt t j first high lt (omega arith), codes-above t high j (first + 1) count (omega arith) (omega arith))

codes-up : {A : Type 0} (t : Tree A) → height t ≤ 63 → (first count : ℕ) → first + count ≤ size t → IsIncreasing (map (item_code t) (range_with_len first count))
unfolding IsIncreasing
codes-up t high first zero within = tt
codes-up t high first (suc count) within = (codes-above t high first (first + 1) count (omega arith) (omega arith), codes-up t high (first + 1) count (omega arith))

pub IsIncreasing-codes_of : {A : Type 0} (t : Tree A) → height t ≤ 63 → IsIncreasing (codes_of t)
unfolding codes_of
IsIncreasing-codes_of t high = codes-up t high 0 (size t) (omega arith)

pub codes_of_items : {A : Type 0} (t : Tree A) → Codes A t
codes_of_items t = record { as_many = length-codes_of t; rise = IsIncreasing-codes_of t }
