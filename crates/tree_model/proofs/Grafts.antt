-- A tree put at the end of a way: items, height, sizes.
use Rattle.std.proofs.Common.{◌≡◌, ℕ, suc, zero, ◌+◌, ◌-◌, ◌<◌, ◌≤◌, List, [], ◌∷◌, ◌++◌, length, insert, refl, ap, ◌∙◌, sym, inl, inr, arith}
use Rattle.std.proofs.lemmas.Bool.{cases_lt}
use Rattle.std.proofs.lemmas.List.Edits.{insert-append_left, insert-append_right}
use Rattle.tree_model.specs.declared.Side.{Side}
use Rattle.tree_model.specs.declared.Side.TheVariants.{Left, Right}
use Rattle.tree_model.specs.declared.Place.TheVariants.{Gap}
use Rattle.tree_model.specs.Trees.{Tree, leaf, node, inorder, size, height, path, past, balanced}
use Rattle.tree_model.specs.Places.{number}
use Rattle.tree_model.specs.Insertion.{child, with_child, tree_at, put_at, graft, balanced_at}
use Rattle.tree_model.proofs.Ways.{length-inorder, path-left, path-right}
use Rattle.tree_model.proofs.Halves.{inorder-balanced}

-- ---- the items

with_child-same : {A : Type 0} (side : Side) (t u : Tree A) → inorder u ≡ inorder (child side t) → inorder (with_child side t u) ≡ inorder t
unfolding with_child child inorder
with_child-same side leaf u e = refl
with_child-same Left (node l x r) u e = ap (λ (xs : List _). xs ++ x ∷ inorder r) e
with_child-same Right (node l x r) u e = ap (λ (xs : List _). inorder l ++ x ∷ xs) e

-- a tree with the same items in place of a part leaves the items as they were
pub inorder-put_at : {A : Type 0} (way : List Side) (t u : Tree A) → inorder u ≡ inorder (tree_at way t) → inorder (put_at way t u) ≡ inorder t
unfolding put_at tree_at
inorder-put_at [] t u e = e
inorder-put_at (side ∷ way) t u e = with_child-same side t (put_at way (child side t) u) (inorder-put_at way (child side t) u e)

-- a part that is balanced keeps the items in order
pub inorder-balanced_at : {A : Type 0} (way : List Side) (t : Tree A) → inorder (balanced_at way t) ≡ inorder t
unfolding balanced_at
inorder-balanced_at way t = inorder-put_at way t (balanced (inorder (tree_at way t))) (inorder-balanced (inorder (tree_at way t)))

pub graft-leaf : {A : Type 0} (rank : ℕ) (x : A) → graft rank x leaf ≡ node leaf x leaf
unfolding graft path put_at
graft-leaf rank x = refl

pub graft-left : {A : Type 0} (rank : ℕ) (x y : A) (l r : Tree A) → rank ≤ size l → graft rank x (node l y r) ≡ node (graft rank x l) y r
unfolding graft put_at child with_child number
graft-left rank x y l r h = rw (path-left l y r (Gap rank) (omega arith)) refl

pub graft-right : {A : Type 0} (rank : ℕ) (x y : A) (l r : Tree A) → size l < rank → graft rank x (node l y r) ≡ node l y (graft (rank - suc (size l)) x r)
unfolding graft put_at child with_child number past
graft-right rank x y l r h = rw (path-right l y r (Gap rank) (omega arith)) refl

-- the items of a graft: those left of it, the new one, those right of it
pub inorder-graft : {A : Type 0} (rank : ℕ) (x : A) (t : Tree A) → inorder (graft rank x t) ≡ insert (inorder t) rank x
unfolding inorder
inorder-graft rank x leaf = ap inorder (graft-leaf rank x) ∙ insert_nil rank x
  where
    insert_nil : {A : Type 0} (rank : ℕ) (x : A) → x ∷ [] ≡ insert [] rank x
    insert_nil zero x = refl
    insert_nil (suc rank) x = refl
inorder-graft rank x (node l y r) =
    elim (cases_lt (size l) rank) [
      | inl after ↦
          let len = length-inorder l in
          let split = insert-append_right (inorder l) (y ∷ inorder r) (size l) rank x len (omega arith) in
          let cut : rank - size l ≡ suc (rank - suc (size l)) = omega arith in
          ap inorder (graft-right rank x y l r after)
          ∙ ap (λ (xs : List _). inorder l ++ y ∷ xs) (inorder-graft (rank - suc (size l)) x r)
          ∙ ap (λ (k : ℕ). inorder l ++ insert (y ∷ inorder r) k x) (sym cut)
          ∙ sym split
      | inr before ↦
          ap inorder (graft-left rank x y l r before)
          ∙ ap (λ (xs : List _). xs ++ y ∷ inorder r) (inorder-graft rank x l)
          ∙ sym (insert-append_left (inorder l) (y ∷ inorder r) rank x (omega (arith, length-inorder l)))
    ]

-- ---- a part put in twice

child-with : {A : Type 0} (side : Side) (l : Tree A) (x : A) (r u : Tree A) → child side (with_child side (node l x r) u) ≡ u
unfolding child with_child
child-with Left l x r u = refl
child-with Right l x r u = refl

with-with : {A : Type 0} (side : Side) (t u v : Tree A) → with_child side (with_child side t u) v ≡ with_child side t v
unfolding with_child
with-with side leaf u v = refl
with-with Left (node l x r) u v = refl
with-with Right (node l x r) u v = refl

both_leaf : {A : Type 0} (side : Side) (a b c : Tree A) → with_child side (with_child side leaf a) b ≡ with_child side leaf c
unfolding with_child
both_leaf side a b c = refl

-- what is put in above replaces what was put in below
pub put_at-put_at : {A : Type 0} (way rest : List Side) (t u v : Tree A) → put_at way (put_at (way ++ rest) t v) u ≡ put_at way t u
unfolding put_at
put_at-put_at [] rest t u v = refl
put_at-put_at (side ∷ way) rest leaf u v = both_leaf side (put_at (way ++ rest) (child side leaf) v) (put_at way (child side (with_child side leaf (put_at (way ++ rest) (child side leaf) v))) u) (put_at way (child side leaf) u)
put_at-put_at (side ∷ way) rest (node l x r) u v =
    let below = put_at (way ++ rest) (child side (node l x r)) v in
    ap (λ (c : Tree _). with_child side (with_child side (node l x r) below) (put_at way c u)) (child-with side l x r below)
    ∙ with-with side (node l x r) below (put_at way below u)
    ∙ ap (λ (c : Tree _). with_child side (node l x r) c) (put_at-put_at way rest (child side (node l x r)) u v)

-- ---- heights

with_child-height : {A : Type 0} (side : Side) (t u : Tree A) (n m : ℕ) → height t ≤ n → height u ≤ m → suc m ≤ n → height (with_child side t u) ≤ n
unfolding with_child height
with_child-height side leaf u n m a b c = a
with_child-height Left (node l x r) u n m a b c = omega arith
with_child-height Right (node l x r) u n m a b c = omega arith

child-height : {A : Type 0} (side : Side) (t : Tree A) (n : ℕ) → height t ≤ suc n → height (child side t) ≤ n
unfolding child height
child-height side leaf n h = omega arith
child-height Left (node l x r) n h = omega arith
child-height Right (node l x r) n h = omega arith

-- no higher than the tree was and than the way and the new part together
pub height-put_at : {A : Type 0} (way : List Side) (t u : Tree A) (n : ℕ) → height t ≤ n → length way + height u ≤ n → height (put_at way t u) ≤ n
unfolding put_at
height-put_at [] t u n h k = omega arith
height-put_at (side ∷ way) t u zero h k = absurd (omega arith)
height-put_at (side ∷ way) t u (suc n) h k =
    with_child-height side t (put_at way (child side t) u) (suc n) n h
    (height-put_at way (child side t) u n (child-height side t n h) (omega arith)) (omega arith)
