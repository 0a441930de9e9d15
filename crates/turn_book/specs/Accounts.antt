-- The items of one number in a history, and facts about each element of a list.
use Rattle.std.specs.Prelude.{ℕ, ◌≡◌, eqb, Bool, true, false, List, [], ◌∷◌, ◌⊎◌}

abbrev pub kept : {A : Type 0} → Bool → A → List A → List A
kept true x xs = x ∷ xs
kept false x xs = xs

-- the items of the number n, in their order
abbrev pub items_of : {I : Type 0} → (I → ℕ) → ℕ → List I → List I
items_of number n [] = []
items_of number n (x ∷ xs) = kept (eqb (number x) n) x (items_of number n xs)

abbrev pub Each : {A : Type 0} → (A → Type 0) → List A → Type 0
Each P [] = Unit {0}
Each P (x ∷ xs) = P x × Each P xs

-- one of the pairs has this number
abbrev pub HasNumber : {A : Type 0} → ℕ → List (ℕ × A) → Type 0
HasNumber n [] = ⊥
HasNumber n (e ∷ es) = (e.0 ≡ n) ⊎ HasNumber n es
