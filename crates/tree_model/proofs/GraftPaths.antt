-- The ways in a tree with a new item where a gap was.
use Rattle.std.proofs.Common.{◌≡◌, ℕ, suc, ◌+◌, ◌-◌, ◌<◌, ◌≤◌, List, [], ◌∷◌, length, refl, ap, ◌∙◌, sym, subst, inl, inr, arith}
use Rattle.std.proofs.lemmas.Bool.{cases_lt, cases_order}
use Rattle.tree_model.specs.declared.Side.{Side}
use Rattle.tree_model.specs.declared.Side.TheVariants.{Left, Right}
use Rattle.tree_model.specs.declared.Place.TheVariants.{Found, Gap}
use Rattle.tree_model.specs.Trees.{Tree, leaf, node, size, path, past}
use Rattle.tree_model.specs.Places.{number}
use Rattle.tree_model.specs.Balance.{limit}
use Rattle.tree_model.specs.Insertion.{graft, insert_tree}
use Rattle.tree_model.specs.ColumnLaws.{Stays}
use Rattle.tree_model.proofs.Ways.{path-left, path-here, path-right, path-leaf}
use Rattle.tree_model.proofs.Grafts.{graft-leaf, graft-left, graft-right}
use Rattle.tree_model.proofs.Depths.{size-graft, insert-shallow}

pub size-node : {A : Type 0} (l : Tree A) (x : A) (r : Tree A) → size (node l x r) ≡ size l + suc (size r)
unfolding size
size-node l x r = refl

pub size-leaf : (A : Type 0) → size {A = A} leaf ≡ 0
unfolding size
size-leaf A = refl

-- ---- the ways to items and gaps at a node

pub found-left : {A : Type 0} (l : Tree A) (x : A) (r : Tree A) (k : ℕ) → k < size l → path (node l x r) (Found k) ≡ Left ∷ path l (Found k)
unfolding number
found-left l x r k h = path-left l x r (Found k) (omega arith)

pub found-here : {A : Type 0} (l : Tree A) (x : A) (r : Tree A) (k : ℕ) → k ≡ size l → path (node l x r) (Found k) ≡ []
unfolding number
found-here l x r k h = path-here l x r (Found k) (omega arith)

pub found-right : {A : Type 0} (l : Tree A) (x : A) (r : Tree A) (k m : ℕ) → k ≡ size l + suc m → path (node l x r) (Found k) ≡ Right ∷ path r (Found m)
unfolding number past
found-right l x r k m h =
    let e : k - suc (size l) ≡ m = omega arith in
    path-right l x r (Found k) (omega arith) ∙ ap (λ (n : ℕ). Right ∷ path r (Found n)) e

pub gap-left : {A : Type 0} (l : Tree A) (x : A) (r : Tree A) (k : ℕ) → k ≤ size l → path (node l x r) (Gap k) ≡ Left ∷ path l (Gap k)
unfolding number
gap-left l x r k h = path-left l x r (Gap k) (omega arith)

pub gap-right : {A : Type 0} (l : Tree A) (x : A) (r : Tree A) (k m : ℕ) → k ≡ size l + suc m → path (node l x r) (Gap k) ≡ Right ∷ path r (Gap m)
unfolding number past
gap-right l x r k m h =
    let e : k - suc (size l) ≡ m = omega arith in
    path-right l x r (Gap k) (omega arith) ∙ ap (λ (n : ℕ). Right ∷ path r (Gap n)) e

-- ---- the new item stands at the way of its gap

pub graft-new : {A : Type 0} (rank : ℕ) (x : A) (t : Tree A) → rank ≤ size t → path (graft rank x t) (Found rank) ≡ path t (Gap rank)
graft-new {A} rank x leaf h =
    let none = size-leaf A in
    ap (λ (u : Tree A). path u (Found rank)) (graft-leaf rank x) ∙ found-here leaf x leaf rank (omega arith) ∙ sym (path-leaf A (Gap rank))
graft-new {A} rank x (node l y r) h =
    let many = size-node l y r in
    elim (cases_lt (size l) rank) [
      | inl after ↦
          let m = rank - suc (size l) in
          ap (λ (u : Tree A). path u (Found rank)) (graft-right rank x y l r after)
          ∙ found-right l y (graft m x r) rank m (omega arith)
          ∙ ap (λ (way : List Side). Right ∷ way) (graft-new m x r (omega arith))
          ∙ sym (gap-right l y r rank m (omega arith))
      | inr before ↦
          ap (λ (u : Tree A). path u (Found rank)) (graft-left rank x y l r before)
          ∙ found-left (graft rank x l) y r rank (omega (arith, size-graft rank x l))
          ∙ ap (λ (way : List Side). Left ∷ way) (graft-new rank x l before)
          ∙ sym (gap-left l y r rank before)
    ]

-- the items left of it stand where they stood
pub graft-before : {A : Type 0} (rank : ℕ) (x : A) (t : Tree A) (k : ℕ) → rank ≤ size t → k < rank → path (graft rank x t) (Found k) ≡ path t (Found k)
graft-before {A} rank x leaf k h lt = let none = size-leaf A in absurd (omega arith)
graft-before {A} rank x (node l y r) k h lt =
    let many = size-node l y r in
    elim (cases_lt (size l) rank) [
      | inl after ↦
          let m = rank - suc (size l) in
          ap (λ (u : Tree A). path u (Found k)) (graft-right rank x y l r after)
          ∙ elim (cases_order k (size l)) [
            | inl here ↦ found-here l y (graft m x r) k here ∙ sym (found-here l y r k here)
            | inr (inl left) ↦ found-left l y (graft m x r) k left ∙ sym (found-left l y r k left)
            | inr (inr right) ↦
                let j = k - suc (size l) in
                found-right l y (graft m x r) k j (omega arith)
                ∙ ap (λ (way : List Side). Right ∷ way) (graft-before m x r j (omega arith) (omega arith))
                ∙ sym (found-right l y r k j (omega arith))
          ]
      | inr before ↦
          ap (λ (u : Tree A). path u (Found k)) (graft-left rank x y l r before)
          ∙ found-left (graft rank x l) y r k (omega (arith, size-graft rank x l))
          ∙ ap (λ (way : List Side). Left ∷ way) (graft-before rank x l k before lt)
          ∙ sym (found-left l y r k (omega arith))
    ]

-- and those right of it, whose ranks are one higher
pub graft-after : {A : Type 0} (rank : ℕ) (x : A) (t : Tree A) (k : ℕ) → rank ≤ k → k < size t → path (graft rank x t) (Found (suc k)) ≡ path t (Found k)
graft-after {A} rank x leaf k le h = let none = size-leaf A in absurd (omega arith)
graft-after {A} rank x (node l y r) k le h =
    let many = size-node l y r in
    elim (cases_lt (size l) rank) [
      | inl after ↦
          let m = rank - suc (size l) in
          let j = k - suc (size l) in
          ap (λ (u : Tree A). path u (Found (suc k))) (graft-right rank x y l r after)
          ∙ found-right l y (graft m x r) (suc k) (suc j) (omega arith)
          ∙ ap (λ (way : List Side). Right ∷ way) (graft-after m x r j (omega arith) (omega arith))
          ∙ sym (found-right l y r k j (omega arith))
      | inr before ↦
          let grown = size-graft rank x l in
          ap (λ (u : Tree A). path u (Found (suc k))) (graft-left rank x y l r before)
          ∙ elim (cases_order k (size l)) [
            | inl here ↦ found-here (graft rank x l) y r (suc k) (omega arith) ∙ sym (found-here l y r k here)
            | inr (inl left) ↦
                found-left (graft rank x l) y r (suc k) (omega arith)
                ∙ ap (λ (way : List Side). Left ∷ way) (graft-after rank x l k le left)
                ∙ sym (found-left l y r k left)
            | inr (inr right) ↦
                let j = k - suc (size l) in
                found-right (graft rank x l) y r (suc k) j (omega arith) ∙ sym (found-right l y r k j (omega arith))
          ]
    ]

pub graft-stays : {A : Type 0} (rank : ℕ) (x : A) (t : Tree A) → rank ≤ size t → Stays A rank t (graft rank x t)
graft-stays rank x t h = record { left = λ k lt. graft-before rank x t k h lt; new = graft-new rank x t h; right = λ k le lt. graft-after rank x t k le lt }

pub insert-stays : {A : Type 0} (most rank : ℕ) (x : A) (t : Tree A) → rank ≤ size t → length (path t (Gap rank)) ≤ limit most → Stays A rank t (insert_tree most rank x t)
insert-stays {A} most rank x t h shallow = subst (λ (u : Tree A). Stays A rank t u) (sym (insert-shallow most rank x t shallow)) (graft-stays rank x t h)
