-- One step down to a place, and what stands at a rank.
use Rattle.std.proofs.Common.{◌≡◌, ℕ, suc, zero, ◌+◌, ◌<◌, List, [], ◌∷◌, ◌++◌, length, slice_get, Option, Some, None, refl, ap, ◌∙◌, sym, arith, append_assoc, append-nil}
use Rattle.tree_model.specs.declared.Side.{Side}
use Rattle.tree_model.specs.declared.Side.TheVariants.{Left, Right}
use Rattle.tree_model.specs.declared.Place.{Place}
use Rattle.tree_model.specs.Trees.{Tree, leaf, node, inorder, size, turn_at, past, onward, path}
use Rattle.tree_model.proofs.Ways.{length-inorder}

-- ---- ways

pub way-none : {A : Type 0} (above : List Side) (t : Tree A) (p : Place) → t ≡ leaf → above ≡ above ++ path t p
unfolding path
way-none above t p e = sym (ap (λ (u : Tree _). above ++ path u p) e ∙ append-nil above)

pub way-here : {A : Type 0} (above : List Side) (l : Tree A) (x : A) (r t : Tree A) (p : Place) → t ≡ node l x r → turn_at (size l) p ≡ None → above ≡ above ++ path t p
unfolding path onward
way-here above l x r t p e turn =
    sym (ap (λ (u : Tree _). above ++ path u p) e ∙ ap (λ (side : Option Side). above ++ onward side (path l p) (path r (past (suc (size l)) p))) turn ∙ append-nil above)

pub way-left : {A : Type 0} (above way : List Side) (l : Tree A) (x : A) (r t : Tree A) (p : Place) → t ≡ node l x r → turn_at (size l) p ≡ Some Left → way ≡ (above ++ Left ∷ []) ++ path l p → way ≡ above ++ path t p
unfolding path onward
way-left above way l x r t p e turn ew =
    ew
    ∙ append_assoc above (Left ∷ []) (path l p)
    ∙ sym (ap (λ (u : Tree _). above ++ path u p) e ∙ ap (λ (side : Option Side). above ++ onward side (path l p) (path r (past (suc (size l)) p))) turn)

pub way-right : {A : Type 0} (above way : List Side) (l : Tree A) (x : A) (r t : Tree A) (p : Place) → t ≡ node l x r → turn_at (size l) p ≡ Some Right → way ≡ (above ++ Right ∷ []) ++ path r (past (suc (size l)) p) → way ≡ above ++ path t p
unfolding path onward
way-right above way l x r t p e turn ew =
    ew
    ∙ append_assoc above (Right ∷ []) (path r (past (suc (size l)) p))
    ∙ sym (ap (λ (u : Tree _). above ++ path u p) e ∙ ap (λ (side : Option Side). above ++ onward side (path l p) (path r (past (suc (size l)) p))) turn)

-- ---- items

get_left : {A : Type 0} (xs ys : List A) (k : ℕ) → k < length xs → slice_get (xs ++ ys) k ≡ slice_get xs k
get_left [] ys k h = absurd (omega arith)
get_left (x ∷ xs) ys zero h = refl
get_left (x ∷ xs) ys (suc k) h = get_left xs ys k (omega arith)

get_right : {A : Type 0} (xs ys : List A) (k m : ℕ) → k ≡ length xs + m → slice_get (xs ++ ys) k ≡ slice_get ys m
get_right [] ys k m e = ap (λ (i : ℕ). slice_get ys i) (let same : k ≡ m = omega arith in same)
get_right (x ∷ xs) ys zero m e = absurd (omega arith)
get_right (x ∷ xs) ys (suc k) m e = get_right xs ys k m (omega arith)

pub item-left : {A : Type 0} (l : Tree A) (x : A) (r t : Tree A) (rank : ℕ) → t ≡ node l x r → rank < size l → slice_get (inorder t) rank ≡ slice_get (inorder l) rank
unfolding inorder
item-left l x r t rank e h = ap (λ (u : Tree _). slice_get (inorder u) rank) e ∙ get_left (inorder l) (x ∷ inorder r) rank (omega (arith, length-inorder l))

pub item-here : {A : Type 0} (l : Tree A) (x : A) (r t : Tree A) (rank : ℕ) → t ≡ node l x r → rank ≡ size l → slice_get (inorder t) rank ≡ Some x
unfolding inorder
item-here l x r t rank e h = ap (λ (u : Tree _). slice_get (inorder u) rank) e ∙ get_right (inorder l) (x ∷ inorder r) rank 0 (omega (arith, length-inorder l))

pub item-right : {A : Type 0} (l : Tree A) (x : A) (r t : Tree A) (rank m : ℕ) → t ≡ node l x r → rank ≡ size l + suc m → slice_get (inorder t) rank ≡ slice_get (inorder r) m
unfolding inorder
item-right l x r t rank m e h = ap (λ (u : Tree _). slice_get (inorder u) rank) e ∙ get_right (inorder l) (x ∷ inorder r) rank (suc m) (omega (arith, length-inorder l))

pub item-none : {A : Type 0} (t : Tree A) (rank : ℕ) → t ≡ leaf → slice_get (inorder t) rank ≡ None
unfolding inorder
item-none t rank e = ap (λ (u : Tree _). slice_get (inorder u) rank) e
