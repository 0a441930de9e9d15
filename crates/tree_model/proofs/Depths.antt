-- An insertion leaves no item deeper than the limit.
use Rattle.std.proofs.Common.{◌≡◌, ℕ, suc, zero, ◌+◌, ◌-◌, ◌*◌, ◌^◌, ◌<◌, ◌≤◌, List, [], ◌∷◌, ◌++◌, length, take, drop, get_or, reverse, insert, refl, ap, ◌∙◌, sym, subst, inl, inr, arith, length-take-le, take-append-drop, lt-ltb, le-ltb}
use Rattle.std.proofs.lemmas.Bool.{cases_lt}
use Rattle.std.proofs.lemmas.List.{get_or-reverse, length-reverse}
use Rattle.tree_model.specs.declared.Side.{Side}
use Rattle.tree_model.specs.declared.Place.TheVariants.{Gap}
use Rattle.tree_model.specs.Trees.{Tree, leaf, node, inorder, size, height, path, balanced}
use Rattle.tree_model.specs.Balance.{limit, nearest_heavy}
use Rattle.tree_model.specs.Insertion.{child, tree_at, put_at, sizes_along, graft, balanced_at, scapegoat_way, settled, insert_tree}
use Rattle.tree_model.proofs.Ways.{length-inorder, length-path}
use Rattle.tree_model.proofs.Halves.{height-balanced}
use Rattle.tree_model.proofs.Limits.{IsNearestHeavy, nearest_heavy-found, past_limit, few_for_depth, too_deep-fewer}
use Rattle.tree_model.proofs.Grafts.{graft-leaf, graft-left, graft-right, inorder-graft, inorder-balanced_at, put_at-put_at, height-put_at}

pub size-graft : {A : Type 0} (rank : ℕ) (x : A) (t : Tree A) → size (graft rank x t) ≡ suc (size t)
unfolding size
size-graft rank x leaf = ap size (graft-leaf rank x)
size-graft rank x (node l y r) =
    elim (cases_lt (size l) rank) [
      | inl after ↦ ap size (graft-right rank x y l r after) ∙ (let ih = size-graft (rank - suc (size l)) x r in omega arith)
      | inr before ↦ ap size (graft-left rank x y l r before) ∙ (let ih = size-graft rank x l in omega arith)
    ]

pub length-sizes_along : {A : Type 0} (way : List Side) (t : Tree A) → length (sizes_along way t) ≡ length way
unfolding sizes_along
length-sizes_along [] t = refl
length-sizes_along (side ∷ way) t = ap suc (length-sizes_along way (child side t))

pub get_or-sizes_along : {A : Type 0} (way : List Side) (t : Tree A) (k : ℕ) → k < length way → get_or (sizes_along way t) k 0 ≡ size (tree_at (take k way) t)
unfolding sizes_along tree_at
get_or-sizes_along [] t k h = absurd (omega arith)
get_or-sizes_along (side ∷ way) t zero h = refl
get_or-sizes_along (side ∷ way) t (suc k) h = get_or-sizes_along way (child side t) k (omega arith)

-- ---- the part that is balanced

pub insert-shallow : {A : Type 0} (most rank : ℕ) (x : A) (t : Tree A) → length (path t (Gap rank)) ≤ limit most → insert_tree most rank x t ≡ graft rank x t
unfolding insert_tree settled
insert-shallow most rank x t h = rw (le-ltb (limit most) (length (path t (Gap rank))) h) refl

pub insert-deep : {A : Type 0} (most rank : ℕ) (x : A) (t : Tree A) → limit most < length (path t (Gap rank)) → insert_tree most rank x t ≡ balanced_at (scapegoat_way (path t (Gap rank)) (graft rank x t)) (graft rank x t)
unfolding insert_tree settled
insert-deep most rank x t h = rw (lt-ltb (limit most) (length (path t (Gap rank))) h) refl

-- rebuilt or not, the items are those left of the new one, the new one, and those right of it
pub inorder-insert_tree : {A : Type 0} (most rank : ℕ) (x : A) (t : Tree A) → inorder (insert_tree most rank x t) ≡ insert (inorder t) rank x
inorder-insert_tree most rank x t =
    elim (cases_lt (limit most) (length (path t (Gap rank)))) [
      | inl deep ↦
          ap inorder (insert-deep most rank x t deep)
          ∙ inorder-balanced_at (scapegoat_way (path t (Gap rank)) (graft rank x t)) (graft rank x t)
          ∙ inorder-graft rank x t
      | inr shallow ↦ ap inorder (insert-shallow most rank x t shallow) ∙ inorder-graft rank x t
    ]

pub size-insert_tree : {A : Type 0} (most rank : ℕ) (x : A) (t : Tree A) → size (insert_tree most rank x t) ≡ suc (size t)
size-insert_tree most rank x t =
    sym (length-inorder (insert_tree most rank x t))
    ∙ ap length (inorder-insert_tree most rank x t ∙ sym (inorder-graft rank x t))
    ∙ length-inorder (graft rank x t)
    ∙ size-graft rank x t

-- how many items have the ancestors of the end of a way, from the parent up to the root
pub ancestor_size : {A : Type 0} (way : List Side) (t : Tree A) (j : ℕ) → j < length way → get_or (reverse (sizes_along way t)) j 0 ≡ size (tree_at (take (length way - suc j) way) t)
ancestor_size way t j h =
    let len = length-sizes_along way t in
    let up : length (sizes_along way t) - 1 - j ≡ length way - suc j = omega arith in
    get_or-reverse (sizes_along way t) j 0 (omega arith)
    ∙ ap (λ (k : ℕ). get_or (sizes_along way t) k 0) up
    ∙ get_or-sizes_along way t (length way - suc j) (omega arith)

-- some ancestor is too tall for its items, where the end of the way is too deep: the root is
pub scapegoat-found : {A : Type 0} (most : ℕ) (way : List Side) (t : Tree A) → size t ≤ most → limit most < length way → IsNearestHeavy 1 (reverse (sizes_along way t)) (nearest_heavy 1 (reverse (sizes_along way t)))
unfolding tree_at
scapegoat-found most way t fits deep =
    let sizes = reverse (sizes_along way t) in
    let len : length sizes ≡ length way = length-reverse (sizes_along way t) ∙ length-sizes_along way t in
    let root = length way - 1 in
    let front : length way - suc root ≡ 0 = omega arith in
    let size_is : get_or sizes root 0 ≡ size t = ancestor_size way t root (omega arith) ∙ ap (λ (k : ℕ). size (tree_at (take k way) t)) front in
    let all : 1 + root ≡ length way = omega arith in
    let tall : size t * 2 ^ length way < 3 ^ length way = too_deep-fewer (size t) most (length way) fits (past_limit most (length way) deep) in
    nearest_heavy-found sizes 1 root (omega arith) (rw (size_is, all) tall)

-- the part that is balanced fits between its root and the depth of the new item
part_height : {A : Type 0} (most : ℕ) (way : List Side) (t : Tree A) → size t ≤ most → limit most < length way → length (scapegoat_way way t) + height (balanced (inorder (tree_at (scapegoat_way way t) t))) ≤ length way
unfolding scapegoat_way
part_height most way t fits deep =
    let sizes = reverse (sizes_along way t) in
    let len : length sizes ≡ length way = length-reverse (sizes_along way t) ∙ length-sizes_along way t in
    let j = nearest_heavy 1 sizes in
    let found = scapegoat-found most way t fits deep in
    let below : j < length way = omega (arith, found.within) in
    let front = take (length way - suc j) way in
    let front_length = length-take-le (length way - suc j) way (omega arith) in
    let size_is = ancestor_size way t j below in
    let one : 1 + j ≡ suc j = omega arith in
    let heavy = rw (size_is, one) at found.heavy in
    let few = few_for_depth (size (tree_at front t)) (suc j) heavy in
    let part = inorder (tree_at front t) in
    let part_size = length-inorder (tree_at front t) in
    let high = height-balanced part (suc j) (omega arith) in
    omega arith

height_one : {A : Type 0} (x : A) → height (node leaf x leaf) ≡ 1
unfolding height
height_one x = refl

graft_at : {A : Type 0} (rank : ℕ) (x : A) (t : Tree A) (way : List Side) → way ≡ path t (Gap rank) → graft rank x t ≡ put_at way t (node leaf x leaf)
unfolding graft
graft_at rank x t way e = ap (λ (w : List Side). put_at w t (node leaf x leaf)) (sym e)

-- ---- heights

-- a part of a way: its front, and what is left of it
scapegoat_cut : {A : Type 0} (way : List Side) (t : Tree A) → scapegoat_way way t ++ drop (length way - suc (nearest_heavy 1 (reverse (sizes_along way t)))) way ≡ way
unfolding scapegoat_way
scapegoat_cut way t = take-append-drop (length way - suc (nearest_heavy 1 (reverse (sizes_along way t)))) way

-- the balanced part takes the place of the graft below it
rebuilt_of_graft : {A : Type 0} (rank : ℕ) (x : A) (t : Tree A) → balanced_at (scapegoat_way (path t (Gap rank)) (graft rank x t)) (graft rank x t) ≡ put_at (scapegoat_way (path t (Gap rank)) (graft rank x t)) t (balanced (inorder (tree_at (scapegoat_way (path t (Gap rank)) (graft rank x t)) (graft rank x t))))
unfolding balanced_at
rebuilt_of_graft rank x t =
    let way = path t (Gap rank) in
    let front = scapegoat_way way (graft rank x t) in
    let rest = drop (length way - suc (nearest_heavy 1 (reverse (sizes_along way (graft rank x t))))) way in
    let part = balanced (inorder (tree_at front (graft rank x t))) in
    ap (λ (u : Tree _). put_at front u part) (graft_at rank x t (front ++ rest) (scapegoat_cut way (graft rank x t)))
    ∙ put_at-put_at front rest t part (node leaf x leaf)

graft_height : {A : Type 0} (rank : ℕ) (x : A) (t : Tree A) (n : ℕ) → height t ≤ n → length (path t (Gap rank)) < n → height (graft rank x t) ≤ n
unfolding graft
graft_height rank x t n high short = height-put_at (path t (Gap rank)) t (node leaf x leaf) n high (omega (arith, height_one x))

-- no item stands deeper than the limit
pub height-insert_tree : {A : Type 0} (most rank : ℕ) (x : A) (t : Tree A) → size t < most → height t ≤ suc (limit most) → height (insert_tree most rank x t) ≤ suc (limit most)
height-insert_tree most rank x t fits high =
    elim (cases_lt (limit most) (length (path t (Gap rank)))) [
      | inl deep ↦
          let way = path t (Gap rank) in
          let grafted = graft rank x t in
          let front = scapegoat_way way grafted in
          let part = balanced (inorder (tree_at front grafted)) in
          let within : size grafted ≤ most = omega (arith, size-graft rank x t) in
          let room : length front + height part ≤ suc (limit most) = omega (arith, part_height most way grafted within deep, length-path t (Gap rank)) in
          subst (λ (u : Tree _). height u ≤ suc (limit most)) (sym (insert-deep most rank x t deep ∙ rebuilt_of_graft rank x t))
          (height-put_at front t part (suc (limit most)) high room)
      | inr shallow ↦
          subst (λ (u : Tree _). height u ≤ suc (limit most)) (sym (insert-shallow most rank x t shallow)) (graft_height rank x t (suc (limit most)) high (omega arith))
    ]
