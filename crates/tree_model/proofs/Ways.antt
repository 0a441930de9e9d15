-- The way to each place of a tree, and how long it may be.
use Rattle.std.proofs.Common.{◌≡◌, ℕ, suc, ◌+◌, ◌-◌, ◌*◌, ◌<◌, ◌≤◌, max, true, false, ltb, leb, List, [], ◌∷◌, length, Option, Some, None, refl, ap, arith, inl, inr, lt-ltb, le-ltb, le-leb, length-append}
use Rattle.std.proofs.lemmas.Bool.{lt-leb, cases_order, cases_lt}
use Rattle.tree_model.specs.declared.Side.{Side}
use Rattle.tree_model.specs.declared.Side.TheVariants.{Left, Right}
use Rattle.tree_model.specs.declared.Place.{Place}
use Rattle.tree_model.specs.declared.Place.TheVariants.{Found, Gap}
use Rattle.tree_model.specs.Trees.{Tree, leaf, node, inorder, size, height, IsPlaceOf, side_by, gap_side, turn_at, past, onward, path}
use Rattle.tree_model.specs.Places.{number}

-- ---- which way to turn at an item with n items before it

pub turn_at-left : (n : ℕ) (p : Place) → number p < 2 * n + 1 → turn_at n p ≡ Some Left
unfolding turn_at side_by gap_side number
turn_at-left n (Found rank) h = let e : ltb rank n ≡ true = lt-ltb rank n (omega arith) in rw e refl
turn_at-left n (Gap rank) h = let e : leb rank n ≡ true = le-leb rank n (omega arith) in rw e refl

pub turn_at-here : (n : ℕ) (p : Place) → number p ≡ 2 * n + 1 → turn_at n p ≡ None
unfolding turn_at side_by gap_side number
turn_at-here n (Found rank) h =
    let e : ltb rank n ≡ false = le-ltb rank n (omega arith) in
    let f : ltb n rank ≡ false = le-ltb n rank (omega arith) in
    rw (e, f) refl
turn_at-here n (Gap rank) h = absurd (omega arith)

pub turn_at-right : (n : ℕ) (p : Place) → 2 * n + 1 < number p → turn_at n p ≡ Some Right
unfolding turn_at side_by gap_side number
turn_at-right n (Found rank) h =
    let e : ltb rank n ≡ false = le-ltb rank n (omega arith) in
    let f : ltb n rank ≡ true = lt-ltb n rank (omega arith) in
    rw (e, f) refl
turn_at-right n (Gap rank) h = let e : leb rank n ≡ false = lt-leb rank n (omega arith) in rw e refl

pub number-past : (n : ℕ) (p : Place) → 2 * n ≤ number p → number (past n p) + 2 * n ≡ number p
unfolding past number
number-past n (Found rank) h = omega arith
number-past n (Gap rank) h = omega arith

pub same_from_number : (p q : Place) → number p ≡ number q → p ≡ q
unfolding number
same_from_number (Found a) (Found b) h = let e : a ≡ b = omega arith in ap Found e
same_from_number (Found a) (Gap b) h = absurd (omega arith)
same_from_number (Gap a) (Found b) h = absurd (omega arith)
same_from_number (Gap a) (Gap b) h = let e : a ≡ b = omega arith in ap Gap e

pub number-le : (n : ℕ) (p : Place) → IsPlaceOf n p → number p ≤ 2 * n
unfolding IsPlaceOf number
number-le n (Found rank) h = omega arith
number-le n (Gap rank) h = omega arith

pub IsPlaceOf-from_number : (n : ℕ) (p : Place) → number p ≤ 2 * n → IsPlaceOf n p
unfolding IsPlaceOf number
IsPlaceOf-from_number n (Found rank) h = omega arith
IsPlaceOf-from_number n (Gap rank) h = omega arith

-- ---- the way at a node

pub path-leaf : (A : Type 0) (p : Place) → path {A = A} leaf p ≡ []
unfolding path
path-leaf A p = refl

pub path-left : {A : Type 0} (l : Tree A) (x : A) (r : Tree A) (p : Place) → number p < 2 * size l + 1 → path (node l x r) p ≡ Left ∷ path l p
unfolding path onward
path-left l x r p h = rw (turn_at-left (size l) p h) refl

pub path-here : {A : Type 0} (l : Tree A) (x : A) (r : Tree A) (p : Place) → number p ≡ 2 * size l + 1 → path (node l x r) p ≡ []
unfolding path onward
path-here l x r p h = rw (turn_at-here (size l) p h) refl

pub path-right : {A : Type 0} (l : Tree A) (x : A) (r : Tree A) (p : Place) → 2 * size l + 1 < number p → path (node l x r) p ≡ Right ∷ path r (past (suc (size l)) p)
unfolding path onward
path-right l x r p h = rw (turn_at-right (size l) p h) refl

-- ---- sizes and lengths

pub length-inorder : {A : Type 0} (t : Tree A) → length (inorder t) ≡ size t
unfolding inorder size
length-inorder leaf = refl
length-inorder (node l x r) = omega (arith, length-append (inorder l) (x ∷ inorder r), length-inorder l, length-inorder r)

length-onward : (o : Option Side) (a b : List Side) (m n : ℕ) → length a ≤ m → length b ≤ n → length (onward o a b) ≤ suc (max m n)
unfolding onward
length-onward None a b m n p q = omega arith
length-onward (Some Left) a b m n p q = omega arith
length-onward (Some Right) a b m n p q = omega arith

-- no way passes more items than the height
pub length-path : {A : Type 0} (t : Tree A) (p : Place) → length (path t p) ≤ height t
unfolding path height
length-path leaf p = omega arith
length-path (node l x r) p =
    length-onward (turn_at (size l) p) (path l p) (path r (past (suc (size l)) p)) (height l) (height r) (length-path l p) (length-path r (past (suc (size l)) p))

-- the way to an item passes fewer
pub length-path_found : {A : Type 0} (t : Tree A) (rank : ℕ) → rank < size t → length (path t (Found rank)) < height t
unfolding height size number past
length-path_found leaf rank h = absurd (omega arith)
length-path_found (node l x r) rank h =
    elim (cases_order rank (size l)) [
      | inl same ↦ rw (path-here l x r (Found rank) (omega arith)) (omega arith)
      | inr (inl before) ↦ let ih = length-path_found l rank before in rw (path-left l x r (Found rank) (omega arith)) (omega arith)
      | inr (inr after) ↦
          let ih = length-path_found r (rank - suc (size l)) (omega arith) in
          rw (path-right l x r (Found rank) (omega arith)) (omega arith)
    ]

-- the way to some gap passes as many items as the height says
pub height_reached : {A : Type 0} (t : Tree A) → (rank : ℕ) × (rank ≤ size t) × (length (path t (Gap rank)) ≡ height t)
unfolding height size number past
height_reached leaf = (0, omega arith, ap length (path-leaf _ (Gap 0)))
height_reached (node l x r) =
    let left = height_reached l in
    let right = height_reached r in
    elim (cases_lt (height l) (height r)) [
      | inl lower ↦
          let rank = right.0 + suc (size l) in
          let back : rank - suc (size l) ≡ right.0 = omega arith in
          (rank, omega (arith, right.1), rw (path-right l x r (Gap rank) (omega arith), back) (omega (arith, right.2)))
      | inr higher ↦ (left.0, omega (arith, left.1), rw (path-left l x r (Gap left.0) (omega (arith, left.1))) (omega (arith, left.2)))
    ]
