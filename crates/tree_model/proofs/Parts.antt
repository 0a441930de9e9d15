-- The item of a rank and the gap of a rank at the ends of their ways, and the ways within a part and outside it.
use Rattle.std.proofs.Common.{◌≡◌, ℕ, suc, ◌+◌, ◌-◌, ◌<◌, ◌≤◌, List, [], ◌∷◌, ◌++◌, get_or, refl, ap, ap₂, ◌∙◌, sym, subst, inl, inr, arith, append-nil}
use Rattle.std.proofs.lemmas.Bool.{cases_lt, cases_order}
use Rattle.std.proofs.lemmas.List.{get_or_append_left, get_or-append_right}
use Rattle.tree_model.specs.declared.Side.{Side}
use Rattle.tree_model.specs.declared.Side.TheVariants.{Left, Right}
use Rattle.tree_model.specs.declared.Place.TheVariants.{Found, Gap}
use Rattle.tree_model.specs.Trees.{Tree, leaf, node, inorder, size, path}
use Rattle.tree_model.specs.Insertion.{child, with_child, tree_at, put_at}
use Rattle.tree_model.specs.Parts.{beside, before, IsWay, LeadsToItem, LeadsToGap}
use Rattle.tree_model.proofs.Ways.{length-inorder, path-leaf}
use Rattle.tree_model.proofs.GraftPaths.{found-left, found-here, found-right, gap-left, gap-right, size-node, size-leaf}

-- ---- one step

-- a way that leads to an item, with a step before it
item-left : {A : Type 0} (l : Tree A) (y : A) (r : Tree A) (way : List Side) (rank : ℕ) (x : A) → LeadsToItem A l way rank x → LeadsToItem A (node l y r) (Left ∷ way) rank x
unfolding IsWay tree_at child before beside size
item-left l y r way rank x to = record { is_way = (omega arith, to.is_way); left = to.left; right = to.right; at = to.at; rank_is = omega (arith, to.rank_is) }

item-right : {A : Type 0} (l : Tree A) (y : A) (r : Tree A) (way : List Side) (m rank : ℕ) (x : A) → rank ≡ size l + suc m → LeadsToItem A r way m x → LeadsToItem A (node l y r) (Right ∷ way) rank x
unfolding IsWay tree_at child before beside size
item-right l y r way m rank x e to = record { is_way = (omega arith, to.is_way); left = to.left; right = to.right; at = to.at; rank_is = omega (arith, to.rank_is) }

item-here : {A : Type 0} (l : Tree A) (y : A) (r : Tree A) (rank : ℕ) → rank ≡ size l → LeadsToItem A (node l y r) [] rank y
unfolding IsWay tree_at before
item-here l y r rank e = record { is_way = tt; left = l; right = r; at = refl; rank_is = omega arith }

gap-left_of : {A : Type 0} (l : Tree A) (y : A) (r : Tree A) (way : List Side) (rank : ℕ) → LeadsToGap A l way rank → LeadsToGap A (node l y r) (Left ∷ way) rank
unfolding IsWay tree_at child before beside size
gap-left_of l y r way rank to = record { is_way = (omega arith, to.is_way); at = to.at; rank_is = omega (arith, to.rank_is) }

gap-right_of : {A : Type 0} (l : Tree A) (y : A) (r : Tree A) (way : List Side) (m rank : ℕ) → rank ≡ size l + suc m → LeadsToGap A r way m → LeadsToGap A (node l y r) (Right ∷ way) rank
unfolding IsWay tree_at child before beside size
gap-right_of l y r way m rank e to = record { is_way = (omega arith, to.is_way); at = to.at; rank_is = omega (arith, to.rank_is) }

gap-leaf : (A : Type 0) (rank : ℕ) → rank ≡ 0 → LeadsToGap A leaf [] rank
unfolding IsWay tree_at before
gap-leaf A rank e = record { is_way = tt; at = refl; rank_is = sym e }

-- ---- the item of a rank

inorder-node : {A : Type 0} (l : Tree A) (x : A) (r : Tree A) → inorder (node l x r) ≡ inorder l ++ x ∷ inorder r
unfolding inorder
inorder-node l x r = refl

item_of-left : {A : Type 0} (l : Tree A) (y : A) (r : Tree A) (k : ℕ) (d : A) → k < size l → get_or (inorder (node l y r)) k d ≡ get_or (inorder l) k d
item_of-left {A} l y r k d h =
    ap (λ (xs : List A). get_or xs k d) (inorder-node l y r) ∙ get_or_append_left (inorder l) (y ∷ inorder r) d k (omega (arith, length-inorder l))

item_of-right : {A : Type 0} (l : Tree A) (y : A) (r : Tree A) (k m : ℕ) (d : A) → k ≡ size l + m → get_or (inorder (node l y r)) k d ≡ get_or (y ∷ inorder r) m d
item_of-right {A} l y r k m d h =
    let back : k - size l ≡ m = omega arith in
    ap (λ (xs : List A). get_or xs k d) (inorder-node l y r)
    ∙ get_or-append_right (inorder l) (y ∷ inorder r) (size l) k d (length-inorder l) (omega arith)
    ∙ ap (λ (n : ℕ). get_or (y ∷ inorder r) n d) back

pub item_at : {A : Type 0} (t : Tree A) (rank : ℕ) (d : A) → rank < size t → LeadsToItem A t (path t (Found rank)) rank (get_or (inorder t) rank d)
item_at {A} leaf rank d h = let none = size-leaf A in absurd (omega arith)
item_at {A} (node l y r) rank d h =
    let many = size-node l y r in
    let Leads = λ (way : List Side) (x : A). LeadsToItem A (node l y r) way rank x in
    elim (cases_order rank (size l)) [
      | inl here ↦
          subst (λ (way : List Side). Leads way (get_or (inorder (node l y r)) rank d)) (sym (found-here l y r rank here))
          (subst (λ (x : A). Leads [] x) (sym (item_of-right l y r rank 0 d (omega arith))) (item-here l y r rank here))
      | inr (inl left) ↦
          subst (λ (way : List Side). Leads way (get_or (inorder (node l y r)) rank d)) (sym (found-left l y r rank left))
          (subst (λ (x : A). Leads (Left ∷ path l (Found rank)) x) (sym (item_of-left l y r rank d left)) (item-left l y r (path l (Found rank)) rank (get_or (inorder l) rank d) (item_at l rank d left)))
      | inr (inr right) ↦
          let m = rank - suc (size l) in
          subst (λ (way : List Side). Leads way (get_or (inorder (node l y r)) rank d)) (sym (found-right l y r rank m (omega arith)))
          (subst (λ (x : A). Leads (Right ∷ path r (Found m)) x) (sym (item_of-right l y r rank (suc m) d (omega arith)))
          (item-right l y r (path r (Found m)) m rank (get_or (inorder r) m d) (omega arith) (item_at r m d (omega arith))))
    ]

pub gap_at : {A : Type 0} (t : Tree A) (rank : ℕ) → rank ≤ size t → LeadsToGap A t (path t (Gap rank)) rank
gap_at {A} leaf rank h =
    let none = size-leaf A in
    subst (λ (way : List Side). LeadsToGap A leaf way rank) (sym (path-leaf A (Gap rank))) (gap-leaf A rank (omega arith))
gap_at {A} (node l y r) rank h =
    let many = size-node l y r in
    elim (cases_lt (size l) rank) [
      | inl after ↦
          let m = rank - suc (size l) in
          subst (λ (way : List Side). LeadsToGap A (node l y r) way rank) (sym (gap-right l y r rank m (omega arith))) (gap-right_of l y r (path r (Gap m)) m rank (omega arith) (gap_at r m (omega arith)))
      | inr left ↦
          subst (λ (way : List Side). LeadsToGap A (node l y r) way rank) (sym (gap-left l y r rank left)) (gap-left_of l y r (path l (Gap rank)) rank (gap_at l rank left))
    ]

-- ---- the ways within a part

child-within : {A : Type 0} (side : Side) (t : Tree A) → beside side t + size (child side t) ≤ size t
unfolding beside child size
child-within side leaf = omega arith
child-within Left (node l x r) = omega arith
child-within Right (node l x r) = omega arith

-- an item of the tree on one side stands one step further
step : {A : Type 0} (side : Side) (t : Tree A) (k : ℕ) → 0 < size t → k < size (child side t) → path t (Found (beside side t + k)) ≡ side ∷ path (child side t) (Found k)
unfolding beside child
step {A} side leaf k some h = let none = size-leaf A in absurd (omega arith)
step Left (node l x r) k some h = let e : 0 + k ≡ k = omega arith in rw e (found-left l x r k h)
step Right (node l x r) k some h = found-right l x r (suc (size l) + k) k (omega arith)

-- a part has no more items than stand from its first on
pub part-within : {A : Type 0} (way : List Side) (t : Tree A) → IsWay way t → before way t + size (tree_at way t) ≤ size t
unfolding IsWay before tree_at
part-within [] t is_way = omega arith
part-within (side ∷ way) t is_way = let ih = part-within way (child side t) is_way.1 in omega (arith, child-within side t)

pub ways_in_part : {A : Type 0} (t : Tree A) (way : List Side) (k : ℕ) → IsWay way t → k < size (tree_at way t) → path t (Found (before way t + k)) ≡ way ++ path (tree_at way t) (Found k)
unfolding IsWay before tree_at
ways_in_part t [] k is_way h = let e : 0 + k ≡ k = omega arith in rw e refl
ways_in_part t (side ∷ way) k is_way h =
    let e : beside side t + before way (child side t) + k ≡ beside side t + (before way (child side t) + k) = omega arith in
    let within = part-within way (child side t) is_way.1 in
    rw e (
    step side t (before way (child side t) + k) is_way.0 (omega arith)
    ∙ ap (λ (rest : List Side). side ∷ rest) (ways_in_part (child side t) way k is_way.1 h))

-- ---- the only ways

-- an item's own place in a tree whose root it is
root_way : {A : Type 0} (t l : Tree A) (x : A) (r : Tree A) → t ≡ node l x r → path t (Found (size l)) ≡ []
root_way {A} t l x r e = ap (λ (u : Tree A). path u (Found (size l))) e ∙ found-here l x r (size l) refl

pub way_of_item : {A : Type 0} (t : Tree A) (way : List Side) (rank : ℕ) (x : A) → LeadsToItem A t way rank x → way ≡ path t (Found rank)
way_of_item {A} t way rank x to =
    let part = tree_at way t in
    let many : size part ≡ size to.left + suc (size to.right) = ap size to.at ∙ size-node to.left x to.right in
    sym (append-nil way)
    ∙ ap (λ (rest : List Side). way ++ rest) (sym (root_way part to.left x to.right to.at))
    ∙ sym (ways_in_part t way (size to.left) to.is_way (omega arith))
    ∙ ap (λ (k : ℕ). path t (Found k)) to.rank_is

gap-step : {A : Type 0} (side : Side) (t : Tree A) (k : ℕ) → 0 < size t → k ≤ size (child side t) → path t (Gap (beside side t + k)) ≡ side ∷ path (child side t) (Gap k)
unfolding beside child
gap-step {A} side leaf k some h = let none = size-leaf A in absurd (omega arith)
gap-step Left (node l x r) k some h = let e : 0 + k ≡ k = omega arith in rw e (gap-left l x r k h)
gap-step Right (node l x r) k some h = gap-right l x r (suc (size l) + k) k (omega arith)

gap_way : {A : Type 0} (t : Tree A) (way : List Side) → IsWay way t → tree_at way t ≡ leaf → path t (Gap (before way t)) ≡ way
unfolding IsWay before tree_at
gap_way {A} t [] is_way e = ap (λ (u : Tree A). path u (Gap 0)) e ∙ path-leaf A (Gap 0)
gap_way t (side ∷ way) is_way e =
    let within = part-within way (child side t) is_way.1 in
    gap-step side t (before way (child side t)) is_way.0 (omega arith)
    ∙ ap (λ (rest : List Side). side ∷ rest) (gap_way (child side t) way is_way.1 e)

pub way_of_gap : {A : Type 0} (t : Tree A) (way : List Side) (rank : ℕ) → LeadsToGap A t way rank → way ≡ path t (Gap rank)
way_of_gap t way rank to = sym (gap_way t way to.is_way to.at) ∙ ap (λ (k : ℕ). path t (Gap k)) to.rank_is

-- ---- a part that gives way to another

child-put : {A : Type 0} (side : Side) (t u : Tree A) → 0 < size t → child side (with_child side t u) ≡ u
unfolding child with_child
child-put {A} side leaf u some = let none = size-leaf A in absurd (omega arith)
child-put Left (node l x r) u some = refl
child-put Right (node l x r) u some = refl

beside-put : {A : Type 0} (side : Side) (t u : Tree A) → beside side (with_child side t u) ≡ beside side t
unfolding beside with_child
beside-put side leaf u = refl
beside-put Left (node l x r) u = refl
beside-put Right (node l x r) u = refl

some-put : {A : Type 0} (side : Side) (t u : Tree A) → 0 < size t → 0 < size (with_child side t u)
unfolding with_child size
some-put side leaf u some = some
some-put Left (node l x r) u some = omega arith
some-put Right (node l x r) u some = omega arith

pub tree_at-put_at : {A : Type 0} (way : List Side) (t u : Tree A) → IsWay way t → tree_at way (put_at way t u) ≡ u
unfolding IsWay tree_at put_at
tree_at-put_at [] t u is_way = refl
tree_at-put_at {A} (side ∷ way) t u is_way =
    ap (λ (c : Tree A). tree_at way c) (child-put side t (put_at way (child side t) u) is_way.0) ∙ tree_at-put_at way (child side t) u is_way.1

pub before-put_at : {A : Type 0} (way : List Side) (t u : Tree A) → IsWay way t → before way (put_at way t u) ≡ before way t
unfolding IsWay before put_at
before-put_at [] t u is_way = refl
before-put_at {A} (side ∷ way) t u is_way =
    let below = put_at way (child side t) u in
    ap₂ (λ (m : ℕ) (c : Tree A). m + before way c) (beside-put side t below) (child-put side t below is_way.0)
    ∙ ap (λ (n : ℕ). beside side t + n) (before-put_at way (child side t) u is_way.1)

pub IsWay-put_at : {A : Type 0} (way : List Side) (t u : Tree A) → IsWay way t → IsWay way (put_at way t u)
unfolding IsWay put_at
IsWay-put_at [] t u is_way = tt
IsWay-put_at {A} (side ∷ way) t u is_way =
    let below = put_at way (child side t) u in
    (some-put side t below is_way.0, subst (λ (c : Tree A). IsWay way c) (sym (child-put side t below is_way.0)) (IsWay-put_at way (child side t) u is_way.1))

pub ways_in_new_part : {A : Type 0} (t part : Tree A) (way : List Side) (k : ℕ) → IsWay way t → k < size part → path (put_at way t part) (Found (before way t + k)) ≡ way ++ path part (Found k)
ways_in_new_part {A} t part way k is_way h =
    let same = tree_at-put_at way t part is_way in
    ap (λ (n : ℕ). path (put_at way t part) (Found (n + k))) (sym (before-put_at way t part is_way))
    ∙ ways_in_part (put_at way t part) way k (IsWay-put_at way t part is_way) (omega (arith, ap size same))
    ∙ ap (λ (u : Tree A). way ++ path u (Found k)) same
