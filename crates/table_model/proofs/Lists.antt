-- Lists: maps, and the row of a number.
use Rattle.std.proofs.Common.{◌≡◌, ℕ, Bool, true, false, ◌==◌, List, [], ◌∷◌, map, refl, ap, ap₂, ◌∙◌, sym}
use Rattle.table_model.specs.Changes.{here_or, without, of_row}

pub map-map : {A B C : Type 0} (f : B → C) (g : A → B) (xs : List A) → map f (map g xs) ≡ map (λ (x : A). f (g x)) xs
map-map f g [] = refl
map-map f g (x ∷ xs) = ap (λ (rest : List _). f (g x) ∷ rest) (map-map f g xs)

pub map-same : {A B : Type 0} (f g : A → B) (xs : List A) → ((x : A) → f x ≡ g x) → map f xs ≡ map g xs
map-same f g [] same = refl
map-same f g (x ∷ xs) same = ap₂ (λ (y : _) (rest : List _). y ∷ rest) (same x) (map-same f g xs same)

pub map-nothing : {A : Type 0} (f : A → A) (xs : List A) → ((x : A) → f x ≡ x) → map f xs ≡ xs
map-nothing f [] same = refl
map-nothing f (x ∷ xs) same = ap₂ (λ (y : _) (rest : List _). y ∷ rest) (same x) (map-nothing f xs same)

-- ---- the row of a number

here_or-map : {A B : Type 0} (g : A → B) (b : Bool) (here rest : List A) → map g (here_or b here rest) ≡ here_or b (map g here) (map g rest)
unfolding here_or
here_or-map g true here rest = refl
here_or-map g false here rest = refl

pub without-map : {A B : Type 0} (g : A → B) (number_of : A → ℕ) (number_is : B → ℕ) (number : ℕ) (rows : List A) → ((x : A) → number_is (g x) ≡ number_of x) → without number_is number (map g rows) ≡ map g (without number_of number rows)
unfolding without
without-map g number_of number_is number [] same = refl
without-map g number_of number_is number (row ∷ rows) same =
    ap₂ (λ (k : ℕ) (rest : List _). here_or (k == number) (map g rows) (g row ∷ rest)) (same row) (without-map g number_of number_is number rows same)
    ∙ sym (here_or-map g (number_of row == number) rows (row ∷ without number_of number rows))

here_or-apply : {C D : Type 0} (h : List C → List D) (b : Bool) (here rest : List C) → here_or b (h here) (h rest) ≡ h (here_or b here rest)
unfolding here_or
here_or-apply h true here rest = refl
here_or-apply h false here rest = refl

pub of_row-map : {A B C D : Type 0} (g : A → B) (h : List C → List D) (number_of : A → ℕ) (number_is : B → ℕ) (what : A → List C) (what_is : B → List D) (number : ℕ) (rows : List A)
    → ((x : A) → number_is (g x) ≡ number_of x) → ((x : A) → what_is (g x) ≡ h (what x)) → h [] ≡ [] → of_row number_is what_is number (map g rows) ≡ h (of_row number_of what number rows)
unfolding of_row
of_row-map g h number_of number_is what what_is number [] same says none = sym none
of_row-map g h number_of number_is what what_is number (row ∷ rows) same says none =
    ap (λ (k : ℕ). here_or (k == number) (what_is (g row)) (of_row number_is what_is number (map g rows))) (same row)
    ∙ ap₂ (λ (here rest : List _). here_or (number_of row == number) here rest) (says row) (of_row-map g h number_of number_is what what_is number rows same says none)
    ∙ here_or-apply h (number_of row == number) (what row) (of_row number_of what number rows)
