-- A change in normal form is told by what becomes of a list that it fits, and by the list after it.
use Rattle.std.proofs.Common.{◌≡◌, ◌≢◌, ℕ, true, false, List, [], ◌∷◌, Option, Some, None, refl, ap, ap₂, ◌∙◌, sym, subst, inl, inr, arith}
use Rattle.std.proofs.lemmas.Bool.{cases_eq, cases_Bool}
use Rattle.tree_model.specs.Places.{holds, IsIncreasing}
use Rattle.path_code.specs.declared.moves.Recode.{Recode}
use Rattle.path_code.specs.Sums.{Sum}
use Rattle.code_changes.specs.Changes.{IsIn, new_code, applied, with_some, images, list_after, Fits}
use Rattle.code_changes.specs.Normal.{olds, Differ, IsNormal}
use Rattle.code_changes.specs.Compositions.{pair_if, moved_by, lost_if, dropped_by}
use Rattle.code_changes.proofs.Lists.{IsIn-cons, lt_of_IsIn, same_members}
use Rattle.code_changes.proofs.Rows.{IsIn-rest}
use Rattle.code_changes.proofs.Pairs.{new_code-here, new_code-past}
use Rattle.code_changes.proofs.Leading.{same_sum}
use Rattle.code_changes.proofs.After.{applied-dropped, applied-kept}
use Rattle.code_changes.proofs.Orders.{nowhere, first_in, same_bool, IsIncreasing-rest, IsBelowAll-first}
use Rattle.code_changes.proofs.Becoming.{olds-nil, olds-cons, new_code-free, old_changes, changes_old, dropped_vanishes, vanishes_dropped, IsIncreasing-dropped_by, olds-up, new_code-by}
use Rattle.code_changes.proofs.Both.{after_added, after_cases}

-- ---- functions that agree on a list

pub moved_by-agree : (f g : ℕ → Option ℕ) (codes : List ℕ) → ((n : ℕ) → IsIn n codes → f n ≡ g n) → moved_by f codes ≡ moved_by g codes
unfolding moved_by
moved_by-agree f g [] same = refl
moved_by-agree f g (x ∷ codes) same = ap₂ (pair_if x) (same x (first_in x codes)) (moved_by-agree f g codes (λ n h. same n (IsIn-cons n x codes h)))

pub dropped_by-agree : (f g : ℕ → Option ℕ) (codes : List ℕ) → ((n : ℕ) → IsIn n codes → f n ≡ g n) → dropped_by f codes ≡ dropped_by g codes
unfolding dropped_by
dropped_by-agree f g [] same = refl
dropped_by-agree f g (x ∷ codes) same = ap₂ (lost_if x) (same x (first_in x codes)) (dropped_by-agree f g codes (λ n h. same n (IsIn-cons n x codes h)))

pub images-agree : (s other : Sum) (codes : List ℕ) → ((n : ℕ) → IsIn n codes → applied s n ≡ applied other n) → images s codes ≡ images other codes
unfolding images
images-agree s other [] same = refl
images-agree s other (x ∷ codes) same = ap₂ with_some (same x (first_in x codes)) (images-agree s other codes (λ n h. same n (IsIn-cons n x codes h)))

-- ---- pairs are told by their old codes and what becomes of them

one_pair : (x y : Recode) → x.old ≡ y.old → x.new ≡ y.new → x ≡ y
one_pair x y a b = ap₂ (λ (o n : ℕ). let r : Recode = record { old = o; new = n } in r) a b

olds-first : (x y : Recode) (xs ys : List Recode) → olds (x ∷ xs) ≡ olds (y ∷ ys) → x.old ≡ y.old
unfolding olds
olds-first x y xs ys same = cc

olds-rest : (x y : Recode) (xs ys : List Recode) → olds (x ∷ xs) ≡ olds (y ∷ ys) → olds xs ≡ olds ys
unfolding olds
olds-rest x y xs ys same = cc

olds-none : {P : Type 0} (x : Recode) (xs : List Recode) → olds (x ∷ xs) ≡ olds [] → P
unfolding olds
olds-none x xs same = absurd (cc)

pub pairs_told : (xs ys : List Recode) → IsIncreasing (olds xs) → olds xs ≡ olds ys → ((n : ℕ) → IsIn n (olds xs) → new_code xs n ≡ new_code ys n) → xs ≡ ys
pairs_told [] [] up same news = refl
pairs_told [] (y ∷ ys) up same news = olds-none y ys (sym same)
pairs_told (x ∷ xs) [] up same news = olds-none x xs same
pairs_told (x ∷ xs) (y ∷ ys) up same news =
    let first = olds-first x y xs ys same in
    let rise : IsIncreasing (x.old ∷ olds xs) = subst IsIncreasing (olds-cons x xs) up in
    let at = λ (n : ℕ) (h : IsIn n (x.old ∷ olds xs)). news n (ap (holds n) (olds-cons x xs) ∙ h) in
    let new : x.new ≡ y.new = sym (new_code-here x xs x.old refl) ∙ at x.old (first_in x.old (olds xs)) ∙ new_code-here y ys x.old (sym first) in
    ap₂ (λ (p : Recode) (ps : List Recode). p ∷ ps) (one_pair x y first new) (pairs_told xs ys (IsIncreasing-rest x.old (olds xs) rise) (olds-rest x y xs ys same) (λ n h.
    let past = lt_of_IsIn x.old n (olds xs) (IsBelowAll-first x.old (olds xs) rise) h in
    sym (new_code-past x xs n (λ e. omega arith)) ∙ at n (IsIn-cons n x.old (olds xs) h) ∙ new_code-past y ys n (λ e. omega arith)))

-- ---- a change in normal form is what it does

pub differ-nil : Differ []
unfolding Differ
differ-nil = tt

differ-rest : (pair : Recode) (moved : List Recode) → Differ (pair ∷ moved) → Differ moved
unfolding Differ
differ-rest pair moved d = d.1

differ-first : (pair : Recode) (moved : List Recode) → Differ (pair ∷ moved) → pair.old ≢ pair.new
unfolding Differ
differ-first pair moved d = d.0

-- the old code of a pair becomes another
pub moved_differs : (moved : List Recode) (n : ℕ) → Differ moved → IsIn n (olds moved) → n ≢ new_code moved n
moved_differs [] n d h = nowhere n (ap (holds n) (sym olds-nil) ∙ h)
moved_differs (pair ∷ moved) n d h =
    elim (cases_eq pair.old n) [
      | inl here ↦ (λ e. differ-first pair moved d (here ∙ e ∙ new_code-here pair moved n here))
      | inr past ↦ (λ e. moved_differs moved n (differ-rest pair moved d) (IsIn-rest n pair.old (olds moved) past (ap (holds n) (sym (olds-cons pair moved)) ∙ h)) (e ∙ new_code-past pair moved n past))
    ]

-- an old code isn't dropped
pub moved_kept : (s : Sum) (n : ℕ) → IsNormal s → IsIn n (olds s.moved) → holds n s.dropped ≡ false
moved_kept s n normal h =
    elim (cases_Bool (holds n s.dropped)) [
      | inl out ↦ absurd (let e : true ≡ false = sym h ∙ normal.apart n out in cc)
      | inr free ↦ free
    ]

in_olds : (s : Sum) (codes : List ℕ) → Fits s codes → (n : ℕ) → IsIn n (olds s.moved) → IsIn n codes
unfolding olds
in_olds s codes fits n h = fits.moved n h

olds_rise : (s : Sum) → IsNormal s → IsIncreasing (olds s.moved)
unfolding olds
olds_rise s normal = normal.increase.old

-- what isn't dropped becomes its new code
becomes_new : (s : Sum) (n new : ℕ) → applied s n ≡ Some new → new_code s.moved n ≡ new
becomes_new s n new is =
    elim (cases_Bool (holds n s.dropped)) [
      | inl out ↦ absurd (let e : None ≡ Some new = sym (applied-dropped s n out) ∙ is in cc)
      | inr kept ↦ (let e : Some (new_code s.moved n) ≡ Some new = sym (applied-kept s n kept) ∙ is in cc)
    ]

same_olds : (s : Sum) (codes : List ℕ) → IsNormal s → Fits s codes → (n : ℕ) → holds n (olds s.moved) ≡ holds n (olds (moved_by (applied s) codes))
same_olds s codes normal fits n =
    same_bool (holds n (olds s.moved)) (holds n (olds (moved_by (applied s) codes)))
    (λ h. changes_old (applied s) codes n (new_code s.moved n) (in_olds s codes fits n h) (applied-kept s n (moved_kept s n normal h)) (moved_differs s.moved n normal.differ h))
    (λ h. let c = old_changes (applied s) codes n h in elim (cases_Bool (holds n (olds s.moved))) [
      | inl held ↦ held
      | inr free ↦ absurd (c.other (sym (new_code-free s.moved n free) ∙ becomes_new s n c.new c.becomes))
    ])

pub moved_is : (s : Sum) (codes : List ℕ) → IsNormal s → Fits s codes → s.moved ≡ moved_by (applied s) codes
moved_is s codes normal fits =
    let told = moved_by (applied s) codes in
    let up = olds_rise s normal in
    pairs_told s.moved told up (same_members (olds s.moved) (olds told) up (olds-up (applied s) codes fits.rises) (same_olds s codes normal fits))
    (λ n h. sym (new_code-by (applied s) codes n (new_code s.moved n) (in_olds s codes fits n h) (applied-kept s n (moved_kept s n normal h))))

pub dropped_is : (s : Sum) (codes : List ℕ) → IsNormal s → Fits s codes → s.dropped ≡ dropped_by (applied s) codes
dropped_is s codes normal fits =
    let told = dropped_by (applied s) codes in
    same_members s.dropped told normal.increase.dropped (IsIncreasing-dropped_by (applied s) codes fits.rises) (λ n.
    same_bool (holds n s.dropped) (holds n told)
    (λ h. vanishes_dropped (applied s) codes n (fits.dropped n h) (applied-dropped s n h))
    (λ h. let v = dropped_vanishes (applied s) codes n h in elim (cases_Bool (holds n s.dropped)) [
      | inl held ↦ held
      | inr free ↦ absurd (let e : Some (new_code s.moved n) ≡ None = sym (applied-kept s n free) ∙ v.becomes in cc)
    ]))

-- an added code of one is an added code of the other
added_in : (s other : Sum) (codes : List ℕ) → Fits s codes → images s codes ≡ images other codes → list_after s codes ≡ list_after other codes → (n : ℕ) → IsIn n s.added → IsIn n other.added
added_in s other codes fits same after n h =
    elim (after_cases other codes n (ap (holds n) (sym after) ∙ after_added s codes n h)) [
      | inl new ↦ new
      | inr image ↦ absurd (let e : true ≡ false = sym image ∙ ap (holds n) (sym same) ∙ fits.apart n h in cc)
    ]

pub told : (s other : Sum) (codes : List ℕ) → IsNormal s → IsNormal other → Fits s codes → Fits other codes → ((n : ℕ) → IsIn n codes → applied s n ≡ applied other n) → list_after s codes ≡ list_after other codes → s ≡ other
told s other codes normal normal_other fits fits_other same after =
    let images_same = images-agree s other codes same in
    same_sum s.moved other.moved s.dropped other.dropped s.added other.added
    (moved_is s codes normal fits ∙ moved_by-agree (applied s) (applied other) codes same ∙ sym (moved_is other codes normal_other fits_other))
    (dropped_is s codes normal fits ∙ dropped_by-agree (applied s) (applied other) codes same ∙ sym (dropped_is other codes normal_other fits_other))
    (same_members s.added other.added normal.increase.added normal_other.increase.added (λ n.
    same_bool (holds n s.added) (holds n other.added) (added_in s other codes fits images_same after n) (added_in other s codes fits_other (sym images_same) (sym after) n)))
