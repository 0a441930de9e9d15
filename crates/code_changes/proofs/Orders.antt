-- A change leaves a list in order exactly where it leaves each two of its codes in order.
use Rattle.std.proofs.Common.{◌≡◌, ℕ, ◌<◌, Bool, true, false, List, [], ◌∷◌, Option, Some, refl, ap, ◌∙◌, sym, subst, inl, inr, arith}
use Rattle.std.proofs.lemmas.Bool.{cases_order, cases_eq, cases_Bool}
use Rattle.tree_model.specs.Places.{holds, IsBelowAll, IsIncreasing}
use Rattle.tree_model.proofs.Ordered.{holds-cons_eq, IsIncreasing-nil}
use Rattle.path_code.specs.Sums.{Sum}
use Rattle.code_changes.specs.Changes.{IsIn, new_code, applied, with_some, images}
use Rattle.code_changes.proofs.Lists.{holds-nil, IsIn-cons, lt_of_IsIn}
use Rattle.code_changes.proofs.Rows.{IsIn-rest}
use Rattle.code_changes.proofs.Images.{images-dropped, images-kept}
use Rattle.code_changes.proofs.After.{applied-kept, image-comes, image-of}

-- ---- members

pub nowhere : {P : Type 0} (n : ℕ) → IsIn n [] → P
nowhere n h = absurd (let e : false ≡ true = sym (holds-nil n) ∙ h in cc)

pub first_in : (n : ℕ) (xs : List ℕ) → IsIn n (n ∷ xs)
first_in n xs = holds-cons_eq n n xs refl

-- what is below each member is below all
pub IsBelowAll-members : (v : ℕ) (xs : List ℕ) → ((n : ℕ) → IsIn n xs → v < n) → IsBelowAll v xs
unfolding IsBelowAll
IsBelowAll-members v [] each = tt
IsBelowAll-members v (x ∷ xs) each = (each x (first_in x xs), IsBelowAll-members v xs (λ n h. each n (IsIn-cons n x xs h)))

pub same_bool : (a b : Bool) → (a ≡ true → b ≡ true) → (b ≡ true → a ≡ true) → a ≡ b
same_bool true true to from = refl
same_bool true false to from = sym (to refl)
same_bool false true to from = from refl
same_bool false false to from = refl

-- ---- what becomes of the first code

pub images-some : (s : Sum) (x y : ℕ) (xs : List ℕ) → applied s x ≡ Some y → images s (x ∷ xs) ≡ y ∷ images s xs
unfolding images with_some
images-some s x y xs e = rw e refl

pub IsIncreasing-rest : (x : ℕ) (xs : List ℕ) → IsIncreasing (x ∷ xs) → IsIncreasing xs
unfolding IsIncreasing
IsIncreasing-rest x xs up = up.1

pub IsBelowAll-first : (x : ℕ) (xs : List ℕ) → IsIncreasing (x ∷ xs) → IsBelowAll x xs
unfolding IsIncreasing
IsBelowAll-first x xs up = up.0

pub IsIncreasing-cons : (x : ℕ) (xs : List ℕ) → IsBelowAll x xs → IsIncreasing xs → IsIncreasing (x ∷ xs)
unfolding IsIncreasing
IsIncreasing-cons x xs above up = (above, up)

images-rest : (s : Sum) (x : ℕ) (codes : List ℕ) → IsIncreasing (images s (x ∷ codes)) → IsIncreasing (images s codes)
images-rest s x codes up =
    elim (cases_Bool (holds x s.dropped)) [
      | inl out ↦ subst IsIncreasing (images-dropped s x codes out) up
      | inr kept ↦ IsIncreasing-rest (new_code s.moved x) (images s codes) (subst IsIncreasing (images-kept s x codes kept) up)
    ]

-- ---- both ways

-- of two codes of the list of which codes become, the lower one becomes the lower one
abbrev pub InOrder : (ℕ → Option ℕ) → List ℕ → Type 0
InOrder becomes codes = (a b new_a new_b : ℕ) → IsIn a codes → IsIn b codes → a < b → becomes a ≡ Some new_a → becomes b ≡ Some new_b → new_a < new_b

pub order_kept : (s : Sum) (codes : List ℕ) → IsIncreasing codes → IsIncreasing (images s codes) → InOrder (applied s) codes
order_kept s [] up kept a b new_a new_b in_a in_b lt is_a is_b = nowhere a in_a
order_kept s (x ∷ codes) up kept a b new_a new_b in_a in_b lt is_a is_b =
    elim (cases_eq x a) [
      | inl here ↦
          let first : applied s x ≡ Some new_a = ap (applied s) here ∙ is_a in
          let rest : IsIn b codes = IsIn-rest b x codes (λ e. omega arith) in_b in
          lt_of_IsIn new_a new_b (images s codes) (IsBelowAll-first new_a (images s codes) (subst IsIncreasing (images-some s x new_a codes first) kept)) (image-of s codes b new_b rest is_b)
      | inr other ↦
          let rest_a : IsIn a codes = IsIn-rest a x codes other in_a in
          let past = lt_of_IsIn x a codes (IsBelowAll-first x codes up) rest_a in
          order_kept s codes (IsIncreasing-rest x codes up) (images-rest s x codes kept) a b new_a new_b rest_a (IsIn-rest b x codes (λ e. omega arith) in_b) lt is_a is_b
    ]

images-nil : (s : Sum) → images s [] ≡ []
unfolding images
images-nil s = refl

pub in_order : (s : Sum) (codes : List ℕ) → IsIncreasing codes → InOrder (applied s) codes → IsIncreasing (images s codes)
in_order s [] up order = subst IsIncreasing (sym (images-nil s)) IsIncreasing-nil
in_order s (x ∷ codes) up order =
    let rest = in_order s codes (IsIncreasing-rest x codes up) (λ a b new_a new_b in_a in_b. order a b new_a new_b (IsIn-cons a x codes in_a) (IsIn-cons b x codes in_b)) in
    elim (cases_Bool (holds x s.dropped)) [
      | inl out ↦ subst IsIncreasing (sym (images-dropped s x codes out)) rest
      | inr kept ↦
          let new = new_code s.moved x in
          let above : IsBelowAll new (images s codes) = IsBelowAll-members new (images s codes) (λ n h.
          let from = image-comes s codes n h in
          order x from.old new n (first_in x codes) (IsIn-cons from.old x codes from.among) (lt_of_IsIn x from.old codes (IsBelowAll-first x codes up) from.among) (applied-kept s x kept) from.becomes) in
          subst IsIncreasing (sym (images-kept s x codes kept)) (IsIncreasing-cons new (images s codes) above rest)
    ]

-- two codes of which one code becomes are one
pub told_apart : (s : Sum) (codes : List ℕ) → InOrder (applied s) codes → (a b new : ℕ) → IsIn a codes → IsIn b codes → applied s a ≡ Some new → applied s b ≡ Some new → a ≡ b
told_apart s codes order a b new in_a in_b is_a is_b =
    elim (cases_order a b) [
      | inl same ↦ same
      | inr (inl lt) ↦ absurd (let bad = order a b new new in_a in_b lt is_a is_b in omega arith)
      | inr (inr gt) ↦ absurd (let bad = order b a new new in_b in_a gt is_b is_a in omega arith)
    ]
