-- The elements of a list that pass a test.
use Rattle.std.proofs.Common.{◌≡◌, ℕ, Bool, true, false, List, [], ◌∷◌, map, filter, refl, ap, ◌∙◌, sym, inl, inr, cond}
use Rattle.std.proofs.lemmas.Bool.{cond-true, cond-false, cases_Bool}
use Rattle.std.specs.List.{All}
use Rattle.std.proofs.lemmas.List.Elements.{All-head, All-tail}

pub filter-yes : {X : Type 0} (p : X → Bool) (x : X) (xs : List X) → p x ≡ true → filter p (x ∷ xs) ≡ x ∷ filter p xs
filter-yes p x xs h = cond-true _ _ _ h

pub filter-no : {X : Type 0} (p : X → Bool) (x : X) (xs : List X) → p x ≡ false → filter p (x ∷ xs) ≡ filter p xs
filter-no p x xs h = cond-false _ _ _ h

pub filter-none : {X : Type 0} (p : X → Bool) (xs : List X) → All (λ x. p x ≡ false) xs → filter p xs ≡ []
filter-none p [] none = refl
filter-none p (x ∷ xs) none = filter-no p x xs (All-head (λ y. p y ≡ false) x xs none) ∙ filter-none p xs (All-tail (λ y. p y ≡ false) x xs none)

pub filter-all : {X : Type 0} (p : X → Bool) (xs : List X) → All (λ x. p x ≡ true) xs → filter p xs ≡ xs
filter-all p [] all = refl
filter-all p (x ∷ xs) all = filter-yes p x xs (All-head (λ y. p y ≡ true) x xs all) ∙ ap (λ (ys : List _). x ∷ ys) (filter-all p xs (All-tail (λ y. p y ≡ true) x xs all))

-- a test of mapped elements that agrees with one of the elements
pub filter-map : {X Y : Type 0} (f : X → Y) (p : X → Bool) (q : Y → Bool) (xs : List X) → All (λ x. q (f x) ≡ p x) xs → filter q (map f xs) ≡ map f (filter p xs)
filter-map f p q [] same = refl
filter-map f p q (x ∷ xs) same =
    let here = All-head (λ y. q (f y) ≡ p y) x xs same in
    let later = filter-map f p q xs (All-tail (λ y. q (f y) ≡ p y) x xs same) in
    elim (cases_Bool (p x)) [
      | inl h ↦ filter-yes q (f x) (map f xs) (here ∙ h) ∙ ap (λ (ys : List _). f x ∷ ys) later ∙ sym (ap (λ (ys : List _). map f ys) (filter-yes p x xs h))
      | inr h ↦ filter-no q (f x) (map f xs) (here ∙ h) ∙ later ∙ sym (ap (λ (ys : List _). map f ys) (filter-no p x xs h))
    ]

map-itself : {X : Type 0} (xs : List X) → map (λ x. x) xs ≡ xs
map-itself [] = refl
map-itself (x ∷ xs) = ap (λ (ys : List _). x ∷ ys) (map-itself xs)

-- two tests that agree on each element
pub filter-same : {X : Type 0} (p q : X → Bool) (xs : List X) → All (λ x. q x ≡ p x) xs → filter q xs ≡ filter p xs
filter-same p q xs same = ap (filter q) (sym (map-itself xs)) ∙ filter-map (λ x. x) p q xs same ∙ map-itself (filter p xs)
