-- A tree with one item changed or taken out: its items and its height.
use Rattle.std.proofs.Common.{◌≡◌, ℕ, suc, zero, ◌+◌, ◌-◌, ◌<◌, ◌≤◌, max, List, [], ◌∷◌, ◌++◌, length, remove, refl, ap, ◌∙◌, sym, inl, inr, arith, append-nil}
use Rattle.std.proofs.lemmas.Bool.{cases_order}
use Rattle.std.proofs.lemmas.List.Edits.{remove-append_left, remove-append_right}
use Rattle.tree_model.specs.declared.Place.TheVariants.{Found}
use Rattle.tree_model.specs.Trees.{Tree, leaf, node, inorder, size, height}
use Rattle.tree_model.specs.Places.{number}
use Rattle.tree_model.specs.Items.{change_at}
use Rattle.tree_model.specs.Removal.{by_side, change_tree, first_or, without_first, joined, remove_tree}
use Rattle.tree_model.proofs.Ways.{turn_at-left, turn_at-here, turn_at-right, length-inorder}
use Rattle.tree_model.proofs.Changes.{length-change_at}

-- ---- a change at an item

pub change-left : {A : Type 0} (f : A → A) (l : Tree A) (x : A) (r : Tree A) (rank : ℕ) → rank < size l → change_tree f (node l x r) rank ≡ node (change_tree f l rank) x r
unfolding change_tree by_side number
change-left f l x r rank h = rw (turn_at-left (size l) (Found rank) (omega arith)) refl

pub change-here : {A : Type 0} (f : A → A) (l : Tree A) (x : A) (r : Tree A) (rank : ℕ) → rank ≡ size l → change_tree f (node l x r) rank ≡ node l (f x) r
unfolding change_tree by_side number
change-here f l x r rank h = rw (turn_at-here (size l) (Found rank) (omega arith)) refl

pub change-right : {A : Type 0} (f : A → A) (l : Tree A) (x : A) (r : Tree A) (rank : ℕ) → size l < rank → change_tree f (node l x r) rank ≡ node l x (change_tree f r (rank - suc (size l)))
unfolding change_tree by_side number
change-right f l x r rank h = rw (turn_at-right (size l) (Found rank) (omega arith)) refl

pub change_at-left : {A : Type 0} (f : A → A) (xs ys : List A) (k : ℕ) → k < length xs → change_at f (xs ++ ys) k ≡ change_at f xs k ++ ys
unfolding change_at
change_at-left f [] ys k h = absurd (omega arith)
change_at-left f (x ∷ xs) ys zero h = refl
change_at-left f (x ∷ xs) ys (suc k) h = ap (λ (zs : List _). x ∷ zs) (change_at-left f xs ys k (omega arith))

pub change_at-right : {A : Type 0} (f : A → A) (xs ys : List A) (k m : ℕ) → k ≡ length xs + m → change_at f (xs ++ ys) k ≡ xs ++ change_at f ys m
unfolding change_at
change_at-right f [] ys k m h = let e : k ≡ m = omega arith in rw e refl
change_at-right f (x ∷ xs) ys zero m h = absurd (omega arith)
change_at-right f (x ∷ xs) ys (suc k) m h = ap (λ (zs : List _). x ∷ zs) (change_at-right f xs ys k m (omega arith))

nothing_changed : {A : Type 0} (f : A → A) (rank : ℕ) → inorder (change_tree f leaf rank) ≡ change_at f (inorder leaf) rank
unfolding inorder change_tree change_at
nothing_changed f rank = refl

changed_left : {A : Type 0} (f : A → A) (l : Tree A) (x : A) (r : Tree A) (rank : ℕ) → rank < size l → inorder (change_tree f l rank) ≡ change_at f (inorder l) rank → inorder (change_tree f (node l x r) rank) ≡ change_at f (inorder (node l x r)) rank
unfolding inorder
changed_left f l x r rank h ih =
    ap inorder (change-left f l x r rank h)
    ∙ ap (λ (xs : List _). xs ++ x ∷ inorder r) ih
    ∙ sym (change_at-left f (inorder l) (x ∷ inorder r) rank (omega (arith, length-inorder l)))

changed_here : {A : Type 0} (f : A → A) (l : Tree A) (x : A) (r : Tree A) (rank : ℕ) → rank ≡ size l → inorder (change_tree f (node l x r) rank) ≡ change_at f (inorder (node l x r)) rank
unfolding inorder change_at
changed_here f l x r rank h =
    ap inorder (change-here f l x r rank h) ∙ sym (change_at-right f (inorder l) (x ∷ inorder r) rank 0 (omega (arith, length-inorder l)))

changed_right : {A : Type 0} (f : A → A) (l : Tree A) (x : A) (r : Tree A) (rank : ℕ) → size l < rank → inorder (change_tree f r (rank - suc (size l))) ≡ change_at f (inorder r) (rank - suc (size l)) → inorder (change_tree f (node l x r) rank) ≡ change_at f (inorder (node l x r)) rank
unfolding inorder change_at
changed_right f l x r rank h ih =
    ap inorder (change-right f l x r rank h)
    ∙ ap (λ (xs : List _). inorder l ++ x ∷ xs) ih
    ∙ sym (change_at-right f (inorder l) (x ∷ inorder r) rank (suc (rank - suc (size l))) (omega (arith, length-inorder l)))

pub inorder-change_tree : {A : Type 0} (f : A → A) (t : Tree A) (rank : ℕ) → inorder (change_tree f t rank) ≡ change_at f (inorder t) rank
inorder-change_tree f leaf rank = nothing_changed f rank
inorder-change_tree f (node l x r) rank =
    elim (cases_order rank (size l)) [
      | inl here ↦ changed_here f l x r rank here
      | inr (inl before) ↦ changed_left f l x r rank before (inorder-change_tree f l rank)
      | inr (inr after) ↦ changed_right f l x r rank after (inorder-change_tree f r (rank - suc (size l)))
    ]

pub size-change_tree : {A : Type 0} (f : A → A) (t : Tree A) (rank : ℕ) → size (change_tree f t rank) ≡ size t
size-change_tree f t rank =
    sym (length-inorder (change_tree f t rank)) ∙ ap length (inorder-change_tree f t rank) ∙ length-change_at f (inorder t) rank ∙ length-inorder t

pub height-change_tree : {A : Type 0} (f : A → A) (t : Tree A) (rank : ℕ) → height (change_tree f t rank) ≡ height t
unfolding height change_tree by_side
height-change_tree f leaf rank = refl
height-change_tree f (node l x r) rank =
    elim (cases_order rank (size l)) [
      | inl here ↦ ap height (change-here f l x r rank here)
      | inr (inl before) ↦ ap height (change-left f l x r rank before) ∙ ap (λ (n : ℕ). suc (max n (height r))) (height-change_tree f l rank)
      | inr (inr after) ↦ ap height (change-right f l x r rank after) ∙ ap (λ (n : ℕ). suc (max (height l) n)) (height-change_tree f r (rank - suc (size l)))
    ]

-- ---- an item taken out

inorder-first : {A : Type 0} (l : Tree A) (x : A) (r : Tree A) → first_or x l ∷ inorder (without_first l x r) ≡ inorder (node l x r)
unfolding inorder first_or without_first
inorder-first leaf x r = refl
inorder-first (node a y b) x r = ap (λ (xs : List _). xs ++ x ∷ inorder r) (inorder-first a y b)

pub inorder-joined : {A : Type 0} (l r : Tree A) → inorder (joined l r) ≡ inorder l ++ inorder r
unfolding inorder joined
inorder-joined leaf r = refl
inorder-joined (node a y b) leaf = sym (append-nil (inorder a ++ y ∷ inorder b))
inorder-joined (node a y b) (node c z d) = ap (λ (xs : List _). (inorder a ++ y ∷ inorder b) ++ xs) (inorder-first c z d)

height-without_first : {A : Type 0} (l : Tree A) (x : A) (r : Tree A) → height (without_first l x r) ≤ height (node l x r)
unfolding height without_first
height-without_first leaf x r = omega arith
height-without_first (node a y b) x r = let ih = height-without_first a y b in omega arith

height-joined : {A : Type 0} (l : Tree A) (x : A) (r : Tree A) → height (joined l r) ≤ height (node l x r)
unfolding height joined
height-joined leaf x r = omega arith
height-joined (node a y b) x leaf = omega arith
height-joined (node a y b) x (node c z d) = let low = height-without_first c z d in omega arith

pub remove-left : {A : Type 0} (l : Tree A) (x : A) (r : Tree A) (rank : ℕ) → rank < size l → remove_tree (node l x r) rank ≡ node (remove_tree l rank) x r
unfolding remove_tree by_side number
remove-left l x r rank h = rw (turn_at-left (size l) (Found rank) (omega arith)) refl

pub remove-here : {A : Type 0} (l : Tree A) (x : A) (r : Tree A) (rank : ℕ) → rank ≡ size l → remove_tree (node l x r) rank ≡ joined l r
unfolding remove_tree by_side number
remove-here l x r rank h = rw (turn_at-here (size l) (Found rank) (omega arith)) refl

pub remove-right : {A : Type 0} (l : Tree A) (x : A) (r : Tree A) (rank : ℕ) → size l < rank → remove_tree (node l x r) rank ≡ node l x (remove_tree r (rank - suc (size l)))
unfolding remove_tree by_side number
remove-right l x r rank h = rw (turn_at-right (size l) (Found rank) (omega arith)) refl

nothing_removed : {A : Type 0} (rank : ℕ) → inorder (remove_tree {A = A} leaf rank) ≡ remove [] rank
unfolding inorder remove_tree
nothing_removed zero = refl
nothing_removed (suc rank) = refl

removed_left : {A : Type 0} (l : Tree A) (x : A) (r : Tree A) (rank : ℕ) → rank < size l → inorder (remove_tree l rank) ≡ remove (inorder l) rank → inorder (remove_tree (node l x r) rank) ≡ remove (inorder (node l x r)) rank
unfolding inorder
removed_left l x r rank h ih =
    ap inorder (remove-left l x r rank h)
    ∙ ap (λ (xs : List _). xs ++ x ∷ inorder r) ih
    ∙ sym (remove-append_left (inorder l) (x ∷ inorder r) rank (omega (arith, length-inorder l)))

removed_here : {A : Type 0} (l : Tree A) (x : A) (r : Tree A) (rank : ℕ) → rank ≡ size l → inorder (remove_tree (node l x r) rank) ≡ remove (inorder (node l x r)) rank
unfolding inorder
removed_here l x r rank h =
    let len = length-inorder l in
    let none : rank - size l ≡ 0 = omega arith in
    ap inorder (remove-here l x r rank h)
    ∙ inorder-joined l r
    ∙ ap (λ (k : ℕ). inorder l ++ remove (x ∷ inorder r) k) (sym none)
    ∙ sym (remove-append_right (inorder l) (x ∷ inorder r) (size l) rank len (omega arith))

removed_right : {A : Type 0} (l : Tree A) (x : A) (r : Tree A) (rank : ℕ) → size l < rank → inorder (remove_tree r (rank - suc (size l))) ≡ remove (inorder r) (rank - suc (size l)) → inorder (remove_tree (node l x r) rank) ≡ remove (inorder (node l x r)) rank
unfolding inorder
removed_right l x r rank h ih =
    let len = length-inorder l in
    let cut : rank - size l ≡ suc (rank - suc (size l)) = omega arith in
    ap inorder (remove-right l x r rank h)
    ∙ ap (λ (xs : List _). inorder l ++ x ∷ xs) ih
    ∙ ap (λ (k : ℕ). inorder l ++ remove (x ∷ inorder r) k) (sym cut)
    ∙ sym (remove-append_right (inorder l) (x ∷ inorder r) (size l) rank len (omega arith))

pub inorder-remove_tree : {A : Type 0} (t : Tree A) (rank : ℕ) → inorder (remove_tree t rank) ≡ remove (inorder t) rank
unfolding inorder
inorder-remove_tree leaf rank = nothing_removed rank
inorder-remove_tree (node l x r) rank =
    elim (cases_order rank (size l)) [
      | inl here ↦ removed_here l x r rank here
      | inr (inl before) ↦ removed_left l x r rank before (inorder-remove_tree l rank)
      | inr (inr after) ↦ removed_right l x r rank after (inorder-remove_tree r (rank - suc (size l)))
    ]

pub height-remove_tree : {A : Type 0} (t : Tree A) (rank : ℕ) → height (remove_tree t rank) ≤ height t
unfolding height remove_tree
height-remove_tree leaf rank = omega arith
height-remove_tree (node l x r) rank =
    elim (cases_order rank (size l)) [
      | inl here ↦ rw (remove-here l x r rank here) (height-joined l x r)
      | inr (inl before) ↦ rw (remove-left l x r rank before) (let ih = height-remove_tree l rank in omega arith)
      | inr (inr after) ↦ rw (remove-right l x r rank after) (let ih = height-remove_tree r (rank - suc (size l)) in omega arith)
    ]
