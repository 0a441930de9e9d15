-- The first of what is left of a list.
use Rattle.std.proofs.Common.{◌≡◌, refl, sym, ap, ◌∙◌, ℕ, zero, suc, ◌+◌, ◌-◌, ◌<◌, ◌≤◌, List, [], ◌∷◌, ◌++◌, map, drop, length, get_or, Option, Some, None, arith}
use Rattle.std.proofs.lemmas.List.{drop_more, drop_all}
use Rattle.proxy.specs.Standing.{first_of}

pub first_of-drop : {A : Type 0} (xs : List A) (i : ℕ) (d : A) → i < length xs → first_of (drop i xs) ≡ Some (get_or xs i d)
unfolding first_of
first_of-drop xs i d within = ap first_of (drop_more xs i d within)

pub first_of-past : {A : Type 0} (xs : List A) (i : ℕ) → length xs ≤ i → first_of (drop i xs) ≡ None
unfolding first_of
first_of-past xs i past = ap first_of (drop_all i xs past)

mapped : {A B : Type 0} → (A → B) → Option A → Option B
mapped f None = None
mapped f (Some x) = Some (f x)

-- the first of what is left of a mapped list that others follow
pub first_of-mapped : {A B : Type 0} (f : A → B) (xs : List A) (ys : List B) (n : ℕ) (x : A) → first_of (drop n xs) ≡ Some x
    → first_of (drop n (map f xs ++ ys)) ≡ Some (f x)
unfolding first_of mapped
first_of-mapped {A = A} f [] ys n x here =
    absurd (let e : None ≡ Some x = ap first_of (sym (drop_all {X = A} n [] (omega arith))) ∙ here in cc)
first_of-mapped f (y ∷ xs) ys zero x here = ap (λ o. mapped f o) here
first_of-mapped f (y ∷ xs) ys (suc n) x here = first_of-mapped f xs ys n x here

-- where none is left, the others are
pub drop-mapped : {A B : Type 0} (f : A → B) (xs : List A) (ys : List B) (n : ℕ) → first_of (drop n xs) ≡ None
    → (length xs ≤ n) × (drop n (map f xs ++ ys) ≡ drop (n - length xs) ys)
unfolding first_of
drop-mapped f [] ys n none = (omega arith, let e : n - 0 ≡ n = omega arith in rw e refl)
drop-mapped f (x ∷ xs) ys zero none = absurd (let e : Some x ≡ None = none in cc)
drop-mapped f (x ∷ xs) ys (suc n) none =
    let rest : (length xs ≤ n) × (drop n (map f xs ++ ys) ≡ drop (n - length xs) ys) = drop-mapped f xs ys n none in
    let e : suc n - suc (length xs) ≡ n - length xs = omega arith in
    (omega (arith, rest.0), rw e rest.1)

pub first_of-none : {A : Type 0} (xs : List A) → None ≡ first_of xs → xs ≡ []
unfolding first_of
first_of-none [] none = refl
first_of-none (x ∷ xs) none = absurd (let e : None ≡ Some x = none in cc)
