-- The sizes of an item's ancestors, and the part that is balanced where it is too deep.
use Rattle.std.proofs.Common.{◌≡◌, ℕ, suc, zero, ◌+◌, ◌-◌, ◌*◌, ◌^◌, ◌<◌, ◌≤◌, List, [], ◌∷◌, length, take, reverse, get_or, ap, ◌∙◌, sym, subst, arith, pow-suc}
use Rattle.std.proofs.lemmas.Nat.{pow_pos}
use Rattle.std.proofs.lemmas.List.{length-reverse}
use Rattle.tree_model.specs.declared.Side.{Side}
use Rattle.tree_model.specs.declared.Side.TheVariants.{Left, Right}
use Rattle.tree_model.specs.Trees.{Tree, leaf, node, inorder, size, height, balanced}
use Rattle.tree_model.specs.Balance.{limit, nearest_heavy}
use Rattle.tree_model.specs.Insertion.{child, tree_at, sizes_along}
use Rattle.tree_model.proofs.Depths.{length-sizes_along, ancestor_size, scapegoat-found}
use Rattle.tree_model.proofs.Halves.{height-balanced}
use Rattle.tree_model.proofs.Ways.{length-inorder}

size-child : {A : Type 0} (side : Side) (t : Tree A) → size (child side t) ≤ size t
unfolding size child
size-child Left leaf = omega arith
size-child Right leaf = omega arith
size-child Left (node l x r) = omega arith
size-child Right (node l x r) = omega arith

pub size-tree_at : {A : Type 0} (way : List Side) (t : Tree A) → size (tree_at way t) ≤ size t
unfolding tree_at
size-tree_at [] t = omega arith
size-tree_at (side ∷ way) t = omega (arith, size-tree_at way (child side t), size-child side t)

pub length-ancestors : {A : Type 0} (sizes : List ℕ) (way : List Side) (t : Tree A) → sizes ≡ reverse (sizes_along way t) → length sizes ≡ length way
length-ancestors sizes way t e = ap length e ∙ length-reverse (sizes_along way t) ∙ length-sizes_along way t

pub ancestors-small : {A : Type 0} (sizes : List ℕ) (way : List Side) (t : Tree A) → sizes ≡ reverse (sizes_along way t) → (j : ℕ) → j < length sizes → get_or sizes j 0 ≤ size t
ancestors-small sizes way t e j h =
    let len = length-ancestors sizes way t e in
    let at = ap (λ (xs : List ℕ). get_or xs j 0) e ∙ ancestor_size way t j (omega arith) in
    omega (arith, at, size-tree_at (take (length way - suc j) way) t)

pub ancestors-tall : {A : Type 0} (most : ℕ) (sizes : List ℕ) (way : List Side) (t : Tree A) → sizes ≡ reverse (sizes_along way t) → size t ≤ most → limit most < length way → (j : ℕ) × (j < length sizes) × (get_or sizes j 0 * 2 ^ (j + 1) < 3 ^ (j + 1))
ancestors-tall most sizes way t e fits deep =
    let found = scapegoat-found most way t fits deep in
    let j = nearest_heavy 1 (reverse (sizes_along way t)) in
    let P : List ℕ → Type 0 = λ xs. (j : ℕ) × (j < length xs) × (get_or xs j 0 * 2 ^ (j + 1) < 3 ^ (j + 1)) in
    let one : 1 + j ≡ j + 1 = omega arith in
    let heavy = rw one at found.heavy in
    subst P (sym e) (j, found.within, heavy)

-- a tree of height k has fewer than 2 ^ k items, so it isn't higher when it is balanced
size-below : {A : Type 0} (t : Tree A) (k : ℕ) → height t ≤ k → size t < 2 ^ k
unfolding size height
size-below leaf k h = omega (arith, pow_pos k)
size-below (node l x r) zero h = absurd (omega arith)
size-below (node l x r) (suc k) h =
    let left = size-below l k (omega arith) in
    let right = size-below r k (omega arith) in
    rw (pow-suc 2 k) (omega arith)

pub height-rebalanced : {A : Type 0} (t : Tree A) → height (balanced (inorder t)) ≤ height t
height-rebalanced t = height-balanced (inorder t) (height t) (omega (arith, length-inorder t, size-below t (height t) (omega arith)))
