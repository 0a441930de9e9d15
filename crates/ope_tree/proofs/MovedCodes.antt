-- The lists of codes before and after an item is taken out of a tree.
use Rattle.std.proofs.Common.{◌≡◌, ℕ, suc, ◌<◌, List, [], ◌∷◌, ◌++◌, length, refl, ap, ◌∙◌, sym, arith}
use Rattle.tree_model.specs.declared.Side.{Side}
use Rattle.tree_model.specs.declared.Side.TheVariants.{Left, Right}
use Rattle.tree_model.specs.Trees.{Tree, leaf, node, size}
use Rattle.tree_model.specs.Removal.{first_or, without_first, joined}
use Rattle.code_changes.specs.Removal.{codes_along, moved_up, first_moved, joined_moved, removal_moved}
use Rattle.code_changes.proofs.Shifted.{length-codes_along}

-- codes of a tree in an empty list
pub pushed : {A : Type 0} (empty codes given : List ℕ) (way : List Side) (t : Tree A) → empty ≡ [] → codes ≡ empty ++ codes_along way t → given ≡ codes → given ≡ codes_along way t
pushed empty codes given way t e f g = g ∙ f ∙ ap (λ (xs : List ℕ). xs ++ codes_along way t) e

pub pushed_long : {A : Type 0} (empty codes given : List ℕ) (way : List Side) (t : Tree A) → empty ≡ [] → codes ≡ empty ++ codes_along way t → given ≡ codes → length given ≡ size t
pushed_long empty codes given way t e f g = ap length (pushed empty codes given way t e f g) ∙ length-codes_along way t

-- after one code
pub pushed_after : {A : Type 0} (empty one codes given : List ℕ) (code : ℕ) (way : List Side) (t : Tree A) → empty ≡ [] → one ≡ empty ++ code ∷ [] → codes ≡ one ++ codes_along way t → given ≡ codes → given ≡ code ∷ codes_along way t
pushed_after empty one codes given code way t e o f g =
    g ∙ f ∙ ap (λ (xs : List ℕ). xs ++ codes_along way t) (o ∙ ap (λ (xs : List ℕ). xs ++ code ∷ []) e)

pub pushed_after_long : {A : Type 0} (empty one codes given : List ℕ) (code : ℕ) (way : List Side) (t : Tree A) → empty ≡ [] → one ≡ empty ++ code ∷ [] → codes ≡ one ++ codes_along way t → given ≡ codes → length given ≡ suc (size t)
pushed_after_long empty one codes given code way t e o f g =
    ap length (pushed_after empty one codes given code way t e o f g) ∙ ap suc (length-codes_along way t)

-- ---- two trees without the item between them

pub joined-no_left : {A : Type 0} (l r : Tree A) → l ≡ leaf → r ≡ joined l r
unfolding joined
joined-no_left l r e = sym (ap (λ (u : Tree _). joined u r) e)

joined-leaf : {A : Type 0} (l : Tree A) → joined l leaf ≡ l
unfolding joined
joined-leaf leaf = refl
joined-leaf (node a y b) = refl

pub joined-no_right : {A : Type 0} (l r : Tree A) → r ≡ leaf → l ≡ joined l r
joined-no_right l r e = sym (ap (λ (u : Tree _). joined l u) e ∙ joined-leaf l)

joined-nodes : {A : Type 0} (l c : Tree A) (z : A) (d : Tree A) → 0 < size l → joined l (node c z d) ≡ node l (first_or z c) (without_first c z d)
unfolding joined size
joined-nodes leaf c z d h = absurd (omega arith)
joined-nodes (node a y b) c z d h = refl

pub joined-both : {A : Type 0} (l r c : Tree A) (z : A) (d : Tree A) → 0 < size l → r ≡ node c z d → joined l r ≡ node l (first_or z c) (without_first c z d)
joined-both l r c z d h e = ap (λ (u : Tree _). joined l u) e ∙ joined-nodes l c z d h

-- ---- what that does to codes

pub moved-no_left : {A : Type 0} (way : List Side) (l r : Tree A) → l ≡ leaf → moved_up way Right r ≡ joined_moved way l r
unfolding joined_moved
moved-no_left way l r e = sym (ap (λ (u : Tree _). joined_moved way u r) e)

moved-leaf : {A : Type 0} (way : List Side) (l : Tree A) → joined_moved way l leaf ≡ moved_up way Left l
unfolding joined_moved moved_up codes_along
moved-leaf way leaf = refl
moved-leaf way (node a y b) = refl

pub moved-no_right : {A : Type 0} (way : List Side) (l r : Tree A) → r ≡ leaf → moved_up way Left l ≡ joined_moved way l r
moved-no_right way l r e = sym (ap (λ (u : Tree _). joined_moved way l u) e ∙ moved-leaf way l)

moved-nodes : {A : Type 0} (way : List Side) (l c : Tree A) (z : A) (d : Tree A) → 0 < size l → joined_moved way l (node c z d) ≡ first_moved way (way ++ Right ∷ []) c d
unfolding joined_moved size
moved-nodes way leaf c z d h = absurd (omega arith)
moved-nodes way (node a y b) c z d h = refl

pub moved-both : {A : Type 0} (way : List Side) (l r c : Tree A) (z : A) (d : Tree A) → 0 < size l → r ≡ node c z d → first_moved way (way ++ Right ∷ []) c d ≡ joined_moved way l r
moved-both way l r c z d h e = sym (ap (λ (u : Tree _). joined_moved way l u) e ∙ moved-nodes way l c z d h)

pub first-here : {A : Type 0} (to way : List Side) (l r : Tree A) → l ≡ leaf → first_moved to way leaf r ≡ first_moved to way l r
first-here to way l r e = sym (ap (λ (u : Tree _). first_moved to way u r) e)

pub first-lower : {A : Type 0} (to way : List Side) (l a : Tree A) (y : A) (b r : Tree A) → l ≡ node a y b → first_moved to (way ++ Left ∷ []) a b ≡ first_moved to way l r
unfolding first_moved
first-lower to way l a y b r e = sym (ap (λ (u : Tree _). first_moved to way u r) e)

pub removal-leaf : {A : Type 0} (way : List Side) (t : Tree A) (rank : ℕ) → t ≡ leaf → [] ≡ removal_moved way t rank
unfolding removal_moved
removal-leaf way t rank e = sym (ap (λ (u : Tree _). removal_moved way u rank) e)
