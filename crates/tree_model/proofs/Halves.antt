-- `balanced` without its fuel: its items in order, its root, its sides and its height.
use Rattle.std.proofs.Common.{◌≡◌, ℕ, suc, zero, ◌+◌, ◌*◌, ◌/◌, ◌^◌, ◌<◌, ◌≤◌, List, [], ◌∷◌, ◌++◌, length, take, drop, get_or, refl, ap, ap₂, ◌∙◌, sym, arith, length-append, length-take-le, length-drop, drop-cons, take-append-drop, pow-suc, suc-le-suc, lt_of_lt_of_le, le_trans}
use Rattle.std.proofs.Math.Seq.{take-append_seam, drop-append_seam}
use Rattle.std.proofs.Math.Nat.{max-le}
use Rattle.tree_model.specs.Trees.{Tree, leaf, node, inorder, size, height, path, past, rooted, halved, balanced}
use Rattle.tree_model.proofs.Ways.{length-inorder, length-path, length-path_found, path-left, path-here, path-right}
use Rattle.tree_model.specs.declared.Place.TheVariants.{Gap}
use Rattle.tree_model.specs.declared.Place.{Place}
use Rattle.tree_model.specs.declared.Side.TheVariants.{Left, Right}
use Rattle.tree_model.specs.Places.{number}
use Rattle.tree_model.specs.Laws.{IsShallow}

drop-after : {A : Type 0} (xs : List A) (y : A) (ys : List A) → drop (suc (length xs)) (xs ++ y ∷ ys) ≡ ys
drop-after [] y ys = refl
drop-after (x ∷ xs) y ys = drop-after xs y ys

-- a list is what stands before an item, the item, and what stands after it
split_at_item : {A : Type 0} (xs : List A) (k : ℕ) (d : A) → k < length xs → take k xs ++ get_or xs k d ∷ drop (suc k) xs ≡ xs
split_at_item xs k d h = rw (← drop-cons xs k d h) (take-append-drop k xs)

halved-nil : {A : Type 0} (turns : ℕ) → halved {A = A} turns [] ≡ leaf
unfolding halved rooted
halved-nil zero = refl
halved-nil (suc turns) = refl

-- one turn: the item in the middle becomes the root
halved-suc : {A : Type 0} (turns : ℕ) (xs : List A) (d : A) → length xs / 2 < length xs → halved (suc turns) xs ≡ node (halved turns (take (length xs / 2) xs)) (get_or xs (length xs / 2) d) (halved turns (drop (suc (length xs / 2)) xs))
unfolding halved rooted
halved-suc turns xs d h = rw (drop-cons xs (length xs / 2) d h) refl

halved-split : {A : Type 0} (turns : ℕ) (xs : List A) (x : A) (ys : List A) → length xs ≡ length (xs ++ x ∷ ys) / 2 → halved (suc turns) (xs ++ x ∷ ys) ≡ node (halved turns xs) x (halved turns ys)
unfolding halved rooted
halved-split turns xs x ys e = rw (← e, take-append_seam xs (x ∷ ys), drop-append_seam xs (x ∷ ys), drop-after xs x ys) refl

halved-inorder : {A : Type 0} (turns : ℕ) (xs : List A) → length xs ≤ turns → inorder (halved turns xs) ≡ xs
unfolding inorder
halved-inorder turns [] h = rw (halved-nil turns) refl
halved-inorder zero (x ∷ xs) h = absurd (omega arith)
halved-inorder (suc turns) (x ∷ xs) h =
    let middle : length (x ∷ xs) / 2 < length (x ∷ xs) = omega arith in
    let k = length (x ∷ xs) / 2 in
    let l = halved-inorder turns (take k (x ∷ xs)) (omega (arith, length-take-le k (x ∷ xs))) in
    let r = halved-inorder turns (drop (suc k) (x ∷ xs)) (omega (arith, length-drop (suc k) (x ∷ xs))) in
    ap inorder (halved-suc turns (x ∷ xs) x middle)
    ∙ ap₂ (λ (a b : List _). a ++ get_or (x ∷ xs) k x ∷ b) l r
    ∙ split_at_item (x ∷ xs) k x middle

-- with fuel enough, the amount of it doesn't matter
halved-fuel : {A : Type 0} (m n : ℕ) (xs : List A) → length xs ≤ m → length xs ≤ n → halved m xs ≡ halved n xs
halved-fuel m n [] p q = halved-nil m ∙ sym (halved-nil n)
halved-fuel zero n (x ∷ xs) p q = absurd (omega arith)
halved-fuel (suc m) zero (x ∷ xs) p q = absurd (omega arith)
halved-fuel (suc m) (suc n) (x ∷ xs) p q =
    let middle : length (x ∷ xs) / 2 < length (x ∷ xs) = omega arith in
    let k = length (x ∷ xs) / 2 in
    let size_l = length-take-le k (x ∷ xs) (omega arith) in
    let size_r = length-drop (suc k) (x ∷ xs) in
    let l = halved-fuel m n (take k (x ∷ xs)) (omega arith) (omega arith) in
    let r = halved-fuel m n (drop (suc k) (x ∷ xs)) (omega arith) (omega arith) in
    halved-suc m (x ∷ xs) x middle
    ∙ ap₂ (λ (a b : Tree _). node a (get_or (x ∷ xs) k x) b) l r
    ∙ sym (halved-suc n (x ∷ xs) x middle)

-- the balanced tree has the items of the list in order
pub inorder-balanced : {A : Type 0} (xs : List A) → inorder (balanced xs) ≡ xs
unfolding balanced
inorder-balanced xs = halved-inorder (length xs) xs (omega arith)

pub size-balanced : {A : Type 0} (xs : List A) → size (balanced xs) ≡ length xs
size-balanced xs = sym (length-inorder (balanced xs)) ∙ ap length (inorder-balanced xs)

pub balanced-nil : {A : Type 0} → balanced {A = A} [] ≡ leaf
unfolding balanced halved
balanced-nil = refl

-- the item with half of the items before it is the root, and the sides are the balanced trees of the rest
pub balanced-split : {A : Type 0} (xs : List A) (x : A) (ys : List A) → length xs ≡ length (xs ++ x ∷ ys) / 2 → balanced (xs ++ x ∷ ys) ≡ node (balanced xs) x (balanced ys)
unfolding balanced
balanced-split xs x ys e =
    let whole : length (xs ++ x ∷ ys) ≡ length xs + suc (length ys) = length-append xs (x ∷ ys) in
    let turns = length xs + length ys in
    halved-fuel (length (xs ++ x ∷ ys)) (suc turns) (xs ++ x ∷ ys) (omega arith) (omega arith)
    ∙ halved-split turns xs x ys e
    ∙ ap₂ (λ (a b : Tree _). node a x b) (halved-fuel turns (length xs) xs (omega arith) (omega arith)) (halved-fuel turns (length ys) ys (omega arith) (omega arith))

-- the same, of a list that isn't cut yet
pub balanced-at_half : {A : Type 0} (xs : List A) (d : A) → 0 < length xs → balanced xs ≡ node (balanced (take (length xs / 2) xs)) (get_or xs (length xs / 2) d) (balanced (drop (suc (length xs / 2)) xs))
balanced-at_half xs d h =
    let middle : length xs / 2 < length xs = omega arith in
    let k = length xs / 2 in
    let cut = split_at_item xs k d middle in
    let front : length (take k xs) ≡ length (take k xs ++ get_or xs k d ∷ drop (suc k) xs) / 2 =
    length-take-le k xs (omega arith) ∙ ap (λ (ys : List _). length ys / 2) (sym cut) in
    ap balanced (sym cut) ∙ balanced-split (take k xs) (get_or xs k d) (drop (suc k) xs) front

halved-height : {A : Type 0} (turns k : ℕ) (xs : List A) → length xs < 2 ^ k → height (halved turns xs) ≤ k
unfolding height halved
halved-height zero k xs h = omega arith
halved-height (suc turns) k [] h = rw (halved-nil (suc turns)) (omega arith)
halved-height (suc turns) zero (x ∷ xs) h = absurd (omega arith)
halved-height (suc turns) (suc k) (x ∷ xs) h =
    let middle : length (x ∷ xs) / 2 < length (x ∷ xs) = omega arith in
    let m = length (x ∷ xs) / 2 in
    let twice = pow-suc 2 k in
    let size_l = length-take-le m (x ∷ xs) (omega arith) in
    let size_r = length-drop (suc m) (x ∷ xs) in
    let l = halved-height turns k (take m (x ∷ xs)) (omega arith) in
    let r = halved-height turns k (drop (suc m) (x ∷ xs)) (omega arith) in
    rw (halved-suc turns (x ∷ xs) x middle) (suc-le-suc (max-le l r))

-- fewer than 2 ^ k items stand within k levels
pub height-balanced : {A : Type 0} (xs : List A) (k : ℕ) → length xs < 2 ^ k → height (balanced xs) ≤ k
unfolding balanced
height-balanced xs k h = halved-height (length xs) k xs h

pub balanced-IsShallow : {A : Type 0} (xs : List A) (k : ℕ) → length xs < 2 ^ k → IsShallow A xs k
balanced-IsShallow xs k h =
    let high = height-balanced xs k h in
    record {
      items = λ rank within. lt_of_lt_of_le (length-path_found (balanced xs) rank (omega (arith, size-balanced xs))) high;
      gaps = λ rank. le_trans (length-path (balanced xs) (Gap rank)) high;
    }

-- ---- the ways of a balanced tree, from its root on

front_size : {A : Type 0} (xs : List A) → size (balanced (take (length xs / 2) xs)) ≡ length xs / 2
front_size xs = size-balanced (take (length xs / 2) xs) ∙ length-take-le (length xs / 2) xs (omega arith)

pub path-balanced_left : {A : Type 0} (xs : List A) (p : Place) → 0 < length xs → number p < 2 * (length xs / 2) + 1 → path (balanced xs) p ≡ Left ∷ path (balanced (take (length xs / 2) xs)) p
path-balanced_left [] p h at = absurd (omega arith)
path-balanced_left (x ∷ xs) p h at = rw (balanced-at_half (x ∷ xs) x h) (path-left _ _ _ p (omega (arith, front_size (x ∷ xs))))

pub path-balanced_here : {A : Type 0} (xs : List A) (p : Place) → 0 < length xs → number p ≡ 2 * (length xs / 2) + 1 → path (balanced xs) p ≡ []
path-balanced_here [] p h at = absurd (omega arith)
path-balanced_here (x ∷ xs) p h at = rw (balanced-at_half (x ∷ xs) x h) (path-here _ _ _ p (omega (arith, front_size (x ∷ xs))))

pub path-balanced_right : {A : Type 0} (xs : List A) (p : Place) → 0 < length xs → 2 * (length xs / 2) + 1 < number p → path (balanced xs) p ≡ Right ∷ path (balanced (drop (suc (length xs / 2)) xs)) (past (suc (length xs / 2)) p)
path-balanced_right [] p h at = absurd (omega arith)
path-balanced_right (x ∷ xs) p h at =
    let front = front_size (x ∷ xs) in
    let rest = drop (suc (length (x ∷ xs) / 2)) (x ∷ xs) in
    rw (balanced-at_half (x ∷ xs) x h) (
    path-right _ _ _ p (omega (arith, front)) ∙ ap (λ (n : ℕ). Right ∷ path (balanced rest) (past (suc n) p)) front)

pub path-balanced_nil : (A : Type 0) (p : Place) → path (balanced {A = A} []) p ≡ []
unfolding balanced halved path
path-balanced_nil A p = refl
