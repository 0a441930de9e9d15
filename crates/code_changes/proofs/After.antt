-- The list after a change: it increases, and has the images and the added codes and no others.
use Rattle.std.proofs.Common.{◌≡◌, ℕ, suc, zero, Bool, true, false, ◌||◌, eqb, List, [], ◌∷◌, length, insert, Some, None, refl, ap, ap₂, ◌∙◌, sym, subst, inl, inr, arith, eq-eqb, ne_eqb}
use Rattle.std.proofs.lemmas.Bool.{cases_eq, cases_Bool}
use Rattle.tree_model.specs.declared.Place.TheVariants.{Gap}
use Rattle.tree_model.specs.Places.{below, holds, placed, place, IsIncreasing}
use Rattle.tree_model.proofs.Ordered.{holds-cons_eq, IsIncreasing-insert}
use Rattle.path_code.specs.Sums.{Sum}
use Rattle.code_changes.specs.Changes.{IsIn, new_code, none_if, applied, with_some, images, put_at_place, put, put_all, list_after, differing, Fits}
use Rattle.code_changes.specs.Laws.{Gathers, ComesFrom, AreImages}
use Rattle.code_changes.proofs.Lists.{holds-nil, IsIn-cons}
use Rattle.code_changes.proofs.Pairs.{differing-same, differing-other}
use Rattle.code_changes.proofs.Rows.{IsIn-rest}
use Rattle.code_changes.proofs.Images.{images-dropped, images-kept}

-- ---- a number put into a list

pub put-held : (n : ℕ) (xs : List ℕ) → holds n xs ≡ true → put n xs ≡ xs
unfolding put put_at_place place placed
put-held n xs held = rw held refl

put-free : (n : ℕ) (xs : List ℕ) → holds n xs ≡ false → put n xs ≡ insert xs (below n xs) n
unfolding put put_at_place place placed
put-free n xs free = rw free refl

place-free : (n : ℕ) (xs : List ℕ) → holds n xs ≡ false → place xs n ≡ Gap (below n xs)
unfolding place placed
place-free n xs free = rw free refl

pub IsIncreasing-put : (n : ℕ) (xs : List ℕ) → IsIncreasing xs → IsIncreasing (put n xs)
IsIncreasing-put n xs up =
    elim (cases_Bool (holds n xs)) [
      | inl held ↦ subst IsIncreasing (sym (put-held n xs held)) up
      | inr free ↦ subst IsIncreasing (sym (put-free n xs free)) (IsIncreasing-insert xs n (below n xs) up (place-free n xs free))
    ]

pub IsIncreasing-put_all : (ns xs : List ℕ) → IsIncreasing xs → IsIncreasing (put_all ns xs)
unfolding put_all
IsIncreasing-put_all [] xs up = up
IsIncreasing-put_all (n ∷ ns) xs up = IsIncreasing-put n (put_all ns xs) (IsIncreasing-put_all ns xs up)

swapped : (a b c : Bool) → a || (b || c) ≡ b || (a || c)
swapped true true c = refl
swapped true false c = refl
swapped false true c = refl
swapped false false c = refl

holds-first : (m x : ℕ) (xs : List ℕ) → holds m (x ∷ xs) ≡ eqb x m || holds m xs
unfolding holds
holds-first m x xs = refl

pub holds-insert : (m n : ℕ) (xs : List ℕ) (k : ℕ) → holds m (insert xs k n) ≡ eqb n m || holds m xs
unfolding holds
holds-insert m n xs zero = refl
holds-insert m n [] (suc k) = refl
holds-insert m n (x ∷ xs) (suc k) = ap (λ (b : Bool). eqb x m || b) (holds-insert m n xs k) ∙ swapped (eqb x m) (eqb n m) (holds m xs)

-- one that is held already
held-again : (m n : ℕ) (xs : List ℕ) → holds n xs ≡ true → holds m xs ≡ eqb n m || holds m xs
held-again m n xs held =
    elim (cases_eq n m) [
      | inl same ↦ let here : holds m xs ≡ true = ap (λ (k : ℕ). holds k xs) (sym same) ∙ held in rw (here, eq-eqb n m same) refl
      | inr other ↦ rw (ne_eqb n m other) refl
    ]

pub holds-put : (m n : ℕ) (xs : List ℕ) → holds m (put n xs) ≡ eqb n m || holds m xs
holds-put m n xs =
    elim (cases_Bool (holds n xs)) [
      | inl held ↦ ap (holds m) (put-held n xs held) ∙ held-again m n xs held
      | inr free ↦ ap (holds m) (put-free n xs free) ∙ holds-insert m n xs (below n xs)
    ]

or_assoc : (a b c : Bool) → a || (b || c) ≡ (a || b) || c
or_assoc true b c = refl
or_assoc false b c = refl

pub holds-put_all : (m : ℕ) (ns xs : List ℕ) → holds m (put_all ns xs) ≡ holds m ns || holds m xs
unfolding put_all holds
holds-put_all m [] xs = refl
holds-put_all m (n ∷ ns) xs = holds-put m n (put_all ns xs) ∙ ap (λ (b : Bool). eqb n m || b) (holds-put_all m ns xs) ∙ or_assoc (eqb n m) (holds m ns) (holds m xs)

pub after_gathers : (s : Sum) (codes : List ℕ) → Fits s codes → Gathers s codes
unfolding list_after
after_gathers s codes fits =
    record {
      rises = IsIncreasing-put_all s.added (images s codes) fits.in_order;
      members = λ code. holds-put_all code s.added (images s codes);
    }

-- ---- the images

pub applied-dropped : (s : Sum) (code : ℕ) → holds code s.dropped ≡ true → applied s code ≡ None
unfolding applied none_if
applied-dropped s code h = rw h refl

pub applied-kept : (s : Sum) (code : ℕ) → holds code s.dropped ≡ false → applied s code ≡ Some (new_code s.moved code)
unfolding applied none_if
applied-kept s code h = rw h refl

images-none : {P : Type 0} (s : Sum) (code : ℕ) → IsIn code (images s []) → P
unfolding images
images-none s code h = absurd (let e : false ≡ true = sym (holds-nil code) ∙ h in cc)

-- one more code in the list
more : (s : Sum) (x : ℕ) (codes : List ℕ) (code : ℕ) → ComesFrom s codes code → ComesFrom s (x ∷ codes) code
more s x codes code from = record { old = from.old; among = IsIn-cons from.old x codes from.among; becomes = from.becomes }

pub image-comes : (s : Sum) (codes : List ℕ) (code : ℕ) → IsIn code (images s codes) → ComesFrom s codes code
image-comes s [] code h = images-none s code h
image-comes s (x ∷ codes) code h =
    elim (cases_Bool (holds x s.dropped)) [
      | inl out ↦ more s x codes code (image-comes s codes code (ap (holds code) (sym (images-dropped s x codes out)) ∙ h))
      | inr kept ↦
          let at : IsIn code (new_code s.moved x ∷ images s codes) = ap (holds code) (sym (images-kept s x codes kept)) ∙ h in
          elim (cases_eq (new_code s.moved x) code) [
            | inl here ↦ record { old = x; among = holds-cons_eq x x codes refl; becomes = applied-kept s x kept ∙ ap (λ (n : ℕ). Some n) here }
            | inr other ↦ more s x codes code (image-comes s codes code (IsIn-rest code (new_code s.moved x) (images s codes) other at))
          ]
    ]

image-first : (s : Sum) (x : ℕ) (codes : List ℕ) (code : ℕ) → applied s x ≡ Some code → IsIn code (images s (x ∷ codes))
unfolding images with_some
image-first s x codes code becomes = rw becomes (holds-cons_eq code code (images s codes) refl)

image-more : (s : Sum) (x : ℕ) (codes : List ℕ) (code : ℕ) → IsIn code (images s codes) → IsIn code (images s (x ∷ codes))
image-more s x codes code h =
    elim (cases_Bool (holds x s.dropped)) [
      | inl out ↦ ap (holds code) (images-dropped s x codes out) ∙ h
      | inr kept ↦ ap (holds code) (images-kept s x codes kept) ∙ IsIn-cons code (new_code s.moved x) (images s codes) h
    ]

pub image-of : (s : Sum) (codes : List ℕ) (old code : ℕ) → IsIn old codes → applied s old ≡ Some code → IsIn code (images s codes)
image-of s [] old code among becomes = absurd (let e : false ≡ true = sym (holds-nil old) ∙ among in cc)
image-of s (x ∷ codes) old code among becomes =
    elim (cases_eq x old) [
      | inl here ↦ image-first s x codes code (ap (applied s) here ∙ becomes)
      | inr other ↦ image-more s x codes code (image-of s codes old code (IsIn-rest old x codes other among) becomes)
    ]

pub are_images : (s : Sum) (codes : List ℕ) → AreImages s codes
are_images s codes = record { from = image-comes s codes; to = image-of s codes }

-- ---- lists that don't differ

pub differing-none : (olds news : List ℕ) → length olds ≡ length news → differing olds news ≡ [] → olds ≡ news
differing-none [] [] many none = refl
differing-none [] (y ∷ news) many none = absurd (omega arith)
differing-none (x ∷ olds) [] many none = absurd (omega arith)
differing-none (x ∷ olds) (y ∷ news) many none =
    elim (cases_eq x y) [
      | inl same ↦ ap₂ (λ (n : ℕ) (ns : List ℕ). n ∷ ns) same (differing-none olds news (omega arith) (sym (differing-same x y olds news same) ∙ none))
      | inr other ↦ absurd (let e = sym (differing-other x y olds news other) ∙ none in cc)
    ]
