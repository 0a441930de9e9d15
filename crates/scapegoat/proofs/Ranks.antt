-- The balanced tree of consecutive numbers, by its halves.
use Rattle.std.proofs.Common.{◌≡◌, ℕ, suc, zero, ◌+◌, ◌-◌, ◌/◌, ◌<◌, ◌≤◌, List, [], ◌∷◌, ◌++◌, length, take, drop, get_or, Option, Some, None, refl, ap, ap₂, ◌∙◌, sym, arith, append-nil, append_assoc}
use Rattle.std.specs.List.{range_with_len}
use Rattle.std.proofs.lemmas.List.FromFn.{length-range_with_len, get_or-range_with_len}
use Rattle.tree_model.specs.Trees.{Tree, node, balanced}
use Rattle.tree_model.proofs.Halves.{balanced-nil, balanced-at_half}
use Rattle.scapegoat.specs.Links.{root_of, links_in}
use Rattle.scapegoat.specs.declared.links.Links.{Links}

pub take-range : (a n k : ℕ) → k ≤ n → take k (range_with_len a n) ≡ range_with_len a k
take-range a n zero h = refl
take-range a zero (suc k) h = absurd (omega arith)
take-range a (suc n) (suc k) h = ap (λ (rest : List ℕ). a ∷ rest) (take-range (a + 1) n k (omega arith))

pub drop-range : (a n k : ℕ) → k ≤ n → drop k (range_with_len a n) ≡ range_with_len (a + k) (n - k)
drop-range a n zero h = let e : a + 0 ≡ a = omega arith in let f : n - 0 ≡ n = omega arith in rw (e, f) refl
drop-range a zero (suc k) h = absurd (omega arith)
drop-range a (suc n) (suc k) h =
    let e : a + suc k ≡ a + 1 + k = omega arith in
    let f : suc n - suc k ≡ n - k = omega arith in
    rw (e, f) (drop-range (a + 1) n k (omega arith))

-- the balanced tree of some numbers, by its root and its sides
pub balanced-range : (a n : ℕ) → 0 < n → balanced (range_with_len a n) ≡ node (balanced (range_with_len a (n / 2))) (a + n / 2) (balanced (range_with_len (a + n / 2 + 1) (n - n / 2 - 1)))
balanced-range a n h =
    let xs = range_with_len a n in
    let all : length xs ≡ n = length-range_with_len a n in
    let half : n / 2 < n = omega arith in
    let from : a + suc (n / 2) ≡ a + n / 2 + 1 = omega arith in
    let many : n - suc (n / 2) ≡ n - n / 2 - 1 = omega arith in
    balanced-at_half xs 0 (omega arith)
    ∙ ap (λ (m : ℕ). node (balanced (take (m / 2) xs)) (get_or xs (m / 2) 0) (balanced (drop (suc (m / 2)) xs))) all
    ∙ ap (λ (ys : List ℕ). node (balanced ys) (get_or xs (n / 2) 0) (balanced (drop (suc (n / 2)) xs))) (take-range a n (n / 2) (omega arith))
    ∙ ap (λ (x : ℕ). node (balanced (range_with_len a (n / 2))) x (balanced (drop (suc (n / 2)) xs))) (get_or-range_with_len a n (n / 2) 0 half)
    ∙ ap (λ (ys : List ℕ). node (balanced (range_with_len a (n / 2))) (a + n / 2) (balanced ys)) (drop-range a n (suc (n / 2)) (omega arith) ∙ ap₂ range_with_len from many)

pub root-none : (a n : ℕ) → n ≡ 0 → None ≡ root_of (balanced (range_with_len a n))
unfolding root_of
root-none a n e = rw e (sym (ap root_of (balanced-nil {A = ℕ})))

pub root-some : (a n : ℕ) → 0 < n → Some (a + n / 2) ≡ root_of (balanced (range_with_len a n))
unfolding root_of
root-some a n h = sym (ap root_of (balanced-range a n h))

pub links-none : (a n : ℕ) (old : List Links) → n ≡ 0 → old ≡ old ++ links_in (balanced (range_with_len a n))
unfolding links_in
links-none a n old e = rw e (sym (ap (λ (t : Tree ℕ). old ++ links_in t) (balanced-nil {A = ℕ}) ∙ append-nil old))

pub links-some : (a n : ℕ) → 0 < n → links_in (balanced (range_with_len a n)) ≡ links_in (balanced (range_with_len a (n / 2))) ++ record { left = root_of (balanced (range_with_len a (n / 2))); right = root_of (balanced (range_with_len (a + n / 2 + 1) (n - n / 2 - 1))) } ∷ links_in (balanced (range_with_len (a + n / 2 + 1) (n - n / 2 - 1)))
unfolding links_in
links-some a n h = ap links_in (balanced-range a n h)

-- what three pushes give: the links of the front, of the root, of the rest
pub links-pushed : (a n : ℕ) (old front all : List Links) (left right : Option ℕ) → 0 < n → front ≡ old ++ links_in (balanced (range_with_len a (n / 2))) → left ≡ root_of (balanced (range_with_len a (n / 2))) → right ≡ root_of (balanced (range_with_len (a + n / 2 + 1) (n - n / 2 - 1))) → all ≡ (front ++ record { left = left; right = right } ∷ []) ++ links_in (balanced (range_with_len (a + n / 2 + 1) (n - n / 2 - 1))) → all ≡ old ++ links_in (balanced (range_with_len a n))
links-pushed a n old front all left right h at_front at_left at_right at_all =
    let rest = links_in (balanced (range_with_len (a + n / 2 + 1) (n - n / 2 - 1))) in
    let first = links_in (balanced (range_with_len a (n / 2))) in
    let one : Links = record { left = left; right = right } in
    at_all
    ∙ ap (λ (xs : List Links). (xs ++ one ∷ []) ++ rest) at_front
    ∙ append_assoc (old ++ first) (one ∷ []) rest
    ∙ append_assoc old first (one ∷ rest)
    ∙ ap (λ (xs : List Links). old ++ xs) (ap₂ (λ (l r : Option ℕ). let x : Links = record { left = l; right = r } in first ++ x ∷ rest) at_left at_right ∙ sym (links-some a n h))
