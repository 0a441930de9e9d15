-- The change that takes one item out of a tree is in normal form.
use Rattle.std.proofs.Common.{◌≡◌, ℕ, suc, zero, ◌<◌, ◌≤◌, List, [], ◌∷◌, length, remove, get_or, refl, ap, ◌∙◌, sym, subst, arith}
use Rattle.tree_model.specs.Trees.{Tree, size, height}
use Rattle.tree_model.specs.Removal.{remove_tree}
use Rattle.path_code.specs.Sums.{item_code}
use Rattle.path_code.specs.SumLaws.{Increase}
use Rattle.code_changes.specs.Changes.{differing, with_rows, without_rows}
use Rattle.code_changes.specs.Columns.{codes_of}
use Rattle.code_changes.specs.Normal.{IsNormal}
use Rattle.code_changes.specs.Removal.{removal_moved, removal_sum}
use Rattle.code_changes.proofs.ItemCodes.{length-codes_of, get_or-codes_of, IsIncreasing-codes_of}
use Rattle.code_changes.proofs.Leading.{same_sum}
use Rattle.code_changes.proofs.NormalForms.{taking, taking_normal}
use Rattle.code_changes.proofs.Shifted.{removal_moves}

-- a count of 1 for each element, and of 0 for that of a rank
ones : List ℕ → List ℕ
ones [] = []
ones (x ∷ xs) = 1 ∷ ones xs

ones_but : ℕ → List ℕ → List ℕ
ones_but rank [] = []
ones_but zero (x ∷ xs) = 0 ∷ ones xs
ones_but (suc rank) (x ∷ xs) = 1 ∷ ones_but rank xs

with_rows-ones : (xs : List ℕ) → with_rows (ones xs) xs ≡ xs
unfolding with_rows ones
with_rows-ones [] = refl
with_rows-ones (x ∷ xs) = ap (λ (l : List ℕ). x ∷ l) (with_rows-ones xs)

without_rows-ones : (xs : List ℕ) → without_rows (ones xs) xs ≡ []
unfolding without_rows ones
without_rows-ones [] = refl
without_rows-ones (x ∷ xs) = without_rows-ones xs

with_rows-but : (rank : ℕ) (xs : List ℕ) → rank < length xs → with_rows (ones_but rank xs) xs ≡ remove xs rank
unfolding with_rows ones_but
with_rows-but rank [] within = absurd (omega arith)
with_rows-but zero (x ∷ xs) within = with_rows-ones xs
with_rows-but (suc rank) (x ∷ xs) within = ap (λ (l : List ℕ). x ∷ l) (with_rows-but rank xs (omega arith))

without_rows-but : (rank : ℕ) (xs : List ℕ) → rank < length xs → without_rows (ones_but rank xs) xs ≡ get_or xs rank 0 ∷ []
unfolding without_rows ones_but
without_rows-but rank [] within = absurd (omega arith)
without_rows-but zero (x ∷ xs) within = ap (λ (l : List ℕ). x ∷ l) (without_rows-ones xs)
without_rows-but (suc rank) (x ∷ xs) within = without_rows-but rank xs (omega arith)

removal_takes : {A : Type 0} (t : Tree A) (rank : ℕ) → rank < size t → taking (ones_but rank (codes_of t)) (codes_of t) (codes_of (remove_tree t rank)) [] ≡ removal_sum t rank
unfolding taking removal_sum
removal_takes t rank within =
    let among : rank < length (codes_of t) = omega (arith, length-codes_of t) in
    same_sum
    (differing (with_rows (ones_but rank (codes_of t)) (codes_of t)) (codes_of (remove_tree t rank))) (removal_moved [] t rank)
    (without_rows (ones_but rank (codes_of t)) (codes_of t)) (item_code t rank ∷ []) [] []
    (ap (λ (l : List ℕ). differing l (codes_of (remove_tree t rank))) (with_rows-but rank (codes_of t) among) ∙ removal_moves t rank within)
    (without_rows-but rank (codes_of t) among ∙ ap (λ (n : ℕ). n ∷ []) (get_or-codes_of t rank 0 within))
    refl

pub removal_normal : {A : Type 0} (t : Tree A) (rank : ℕ) → height t ≤ 63 → rank < size t → Increase (removal_sum t rank) → IsNormal (removal_sum t rank)
removal_normal t rank high within increase =
    let same = removal_takes t rank within in
    subst IsNormal same (taking_normal (ones_but rank (codes_of t)) (codes_of t) (codes_of (remove_tree t rank)) [] (IsIncreasing-codes_of t high) (subst Increase (sym same) increase))
