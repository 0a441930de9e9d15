-- A tree over other items has the same form: its ways, its size and its height don't look at them.
use Rattle.std.proofs.Common.{◌≡◌, ℕ, suc, zero, ◌+◌, ◌/◌, max, List, [], ◌∷◌, ◌++◌, length, take, drop, map, replicate, refl, ap, ap₂, ◌∙◌, sym}
use Rattle.std.proofs.lemmas.List.{take-map, drop-map, length-map, map-append}
use Rattle.tree_model.specs.declared.Side.{Side}
use Rattle.tree_model.specs.declared.Place.{Place}
use Rattle.tree_model.specs.Trees.{Tree, leaf, node, inorder, size, height, turn_at, past, onward, path, rooted, halved, balanced, map_tree}

pub size-map_tree : {A B : Type 0} (f : A → B) (t : Tree A) → size (map_tree f t) ≡ size t
unfolding size map_tree
size-map_tree f leaf = refl
size-map_tree f (node l x r) = ap₂ (λ (m n : ℕ). m + suc n) (size-map_tree f l) (size-map_tree f r)

pub height-map_tree : {A B : Type 0} (f : A → B) (t : Tree A) → height (map_tree f t) ≡ height t
unfolding height map_tree
height-map_tree f leaf = refl
height-map_tree f (node l x r) = ap₂ (λ (m n : ℕ). suc (max m n)) (height-map_tree f l) (height-map_tree f r)

pub inorder-map_tree : {A B : Type 0} (f : A → B) (t : Tree A) → inorder (map_tree f t) ≡ map f (inorder t)
unfolding inorder map_tree
inorder-map_tree f leaf = refl
inorder-map_tree f (node l x r) =
    ap₂ (λ (a b : List _). a ++ f x ∷ b) (inorder-map_tree f l) (inorder-map_tree f r) ∙ sym (map-append f (inorder l) (x ∷ inorder r))

pub path-map_tree : {A B : Type 0} (f : A → B) (t : Tree A) (p : Place) → path (map_tree f t) p ≡ path t p
unfolding path map_tree
path-map_tree f leaf p = refl
path-map_tree f (node l x r) p =
    ap (λ (n : ℕ). onward (turn_at n p) (path (map_tree f l) p) (path (map_tree f r) (past (suc n) p))) (size-map_tree f l)
    ∙ ap₂ (λ (a b : List Side). onward (turn_at (size l) p) a b) (path-map_tree f l p) (path-map_tree f r (past (suc (size l)) p))

rooted-map : {A B : Type 0} (f : A → B) (l : Tree A) (xs : List A) (r : Tree A) → rooted (map_tree f l) (map f xs) (map_tree f r) ≡ map_tree f (rooted l xs r)
unfolding rooted map_tree
rooted-map f l [] r = refl
rooted-map f l (x ∷ xs) r = refl

halved-map : {A B : Type 0} (f : A → B) (turns : ℕ) (xs : List A) → halved turns (map f xs) ≡ map_tree f (halved turns xs)
unfolding halved map_tree
halved-map f zero xs = refl
halved-map f (suc turns) xs =
    let k = length xs / 2 in
    ap (λ (n : ℕ). rooted (halved turns (take (n / 2) (map f xs))) (drop (n / 2) (map f xs)) (halved turns (drop (suc (n / 2)) (map f xs)))) (length-map xs f)
    ∙ ap₂ (λ (a b : Tree _). rooted a (drop k (map f xs)) b)
    (ap (λ (ys : List _). halved turns ys) (take-map f k xs) ∙ halved-map f turns (take k xs))
    (ap (λ (ys : List _). halved turns ys) (drop-map f (suc k) xs) ∙ halved-map f turns (drop (suc k) xs))
    ∙ ap (λ (ys : List _). rooted (map_tree f (halved turns (take k xs))) ys (map_tree f (halved turns (drop (suc k) xs)))) (drop-map f k xs)
    ∙ rooted-map f (halved turns (take k xs)) (drop k xs) (halved turns (drop (suc k) xs))

pub balanced-map : {A B : Type 0} (f : A → B) (xs : List A) → balanced (map f xs) ≡ map_tree f (balanced xs)
unfolding balanced
balanced-map f xs = ap (λ (n : ℕ). halved n (map f xs)) (length-map xs f) ∙ halved-map f (length xs) xs

-- the ways in a balanced tree depend on the places alone
pub path-balanced_map : {A B : Type 0} (f : A → B) (xs : List A) (p : Place) → path (balanced (map f xs)) p ≡ path (balanced xs) p
path-balanced_map f xs p = ap (λ (t : Tree _). path t p) (balanced-map f xs) ∙ path-map_tree f (balanced xs) p

blank : {A : Type 0} (xs : List A) → map (λ x. zero) xs ≡ replicate (length xs) zero
blank [] = refl
blank (x ∷ xs) = ap (λ (rest : List ℕ). zero ∷ rest) (blank xs)

-- on how many items there are alone
pub path-balanced_length : {A B : Type 0} (xs : List A) (ys : List B) (p : Place) → length xs ≡ length ys → path (balanced xs) p ≡ path (balanced ys) p
path-balanced_length xs ys p e =
    sym (path-balanced_map (λ x. zero) xs p)
    ∙ ap (λ (zs : List ℕ). path (balanced zs) p) (blank xs ∙ ap (λ (n : ℕ). replicate n zero) e ∙ sym (blank ys))
    ∙ path-balanced_map (λ y. zero) ys p
