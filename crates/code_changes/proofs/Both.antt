-- Two changes that fit a list in turn, as one change of it.
use Rattle.std.proofs.Common.{◌≡◌, ◌⊎◌, ℕ, Bool, true, false, ◌||◌, List, Some, None, refl, ap, ◌∙◌, sym, subst, inl, inr}
use Rattle.std.proofs.lemmas.Bool.{cases_Bool}
use Rattle.tree_model.specs.Places.{holds, IsIncreasing}
use Rattle.path_code.specs.Sums.{Sum}
use Rattle.code_changes.specs.Changes.{IsIn, applied, images, list_after, Fits}
use Rattle.code_changes.specs.Laws.{ComesFrom}
use Rattle.code_changes.specs.Normal.{olds, IsNormal}
use Rattle.code_changes.specs.Compositions.{applied_next, applied_both, moved_by, dropped_by, both_on, FitsInTurn}
use Rattle.code_changes.specs.CompositionLaws.{Composes}
use Rattle.code_changes.proofs.Lists.{same_members}
use Rattle.code_changes.proofs.After.{after_gathers, image-comes, image-of, IsIncreasing-put_all, holds-put_all}
use Rattle.code_changes.proofs.Orders.{same_bool, InOrder, order_kept, in_order, told_apart}
use Rattle.code_changes.proofs.Becoming.{cases_Option, by, old_changes, dropped_vanishes, applied-by, IsNormal-by}

-- ---- what becomes of codes in turn

pub both_none : (s next : Sum) (code : ℕ) → applied s code ≡ None → applied_both s next code ≡ None
unfolding applied_both applied_next
both_none s next code e = rw e refl

pub both_some : (s next : Sum) (code mid : ℕ) → applied s code ≡ Some mid → applied_both s next code ≡ applied next mid
unfolding applied_both applied_next
both_some s next code mid e = rw e refl

-- a code that becomes another in two steps
pub record InTurn (s next : Sum) (code new : ℕ) : Type 0 where
  pub mid : ℕ
  pub first : applied s code ≡ Some mid
  pub second : applied next mid ≡ Some new

pub in_turn : (s next : Sum) (code new : ℕ) → applied_both s next code ≡ Some new → InTurn s next code new
in_turn s next code new is =
    elim (cases_Option (applied s code)) [
      | inl none ↦ absurd (let e : None ≡ Some new = sym (both_none s next code none) ∙ is in cc)
      | inr some ↦ record { mid = some.new; first = some.is; second = sym (both_some s next code some.new some.is) ∙ is }
    ]

-- ---- the list between

-- the list after a change has its images and its added codes
or_right : (a b : Bool) → b ≡ true → a || b ≡ true
or_right true b e = refl
or_right false b e = e

or_left : (a b : Bool) → a ≡ true → a || b ≡ true
or_left true b e = refl
or_left false b e = absurd (cc)

pub or_cases : (a b : Bool) → a || b ≡ true → (a ≡ true) ⊎ (b ≡ true)
or_cases true b e = inl refl
or_cases false b e = inr e

pub after_image : (s : Sum) (codes : List ℕ) (n : ℕ) → IsIn n (images s codes) → IsIn n (list_after s codes)
unfolding list_after
after_image s codes n h = holds-put_all n s.added (images s codes) ∙ or_right (holds n s.added) (holds n (images s codes)) h

pub after_added : (s : Sum) (codes : List ℕ) (n : ℕ) → IsIn n s.added → IsIn n (list_after s codes)
unfolding list_after
after_added s codes n h = holds-put_all n s.added (images s codes) ∙ or_left (holds n s.added) (holds n (images s codes)) h

pub after_cases : (s : Sum) (codes : List ℕ) (n : ℕ) → IsIn n (list_after s codes) → (IsIn n s.added) ⊎ (IsIn n (images s codes))
unfolding list_after
after_cases s codes n h = or_cases (holds n s.added) (holds n (images s codes)) (sym (holds-put_all n s.added (images s codes)) ∙ h)

-- ---- order under both

pub first_order : (s : Sum) (codes : List ℕ) → Fits s codes → InOrder (applied s) codes
first_order s codes fits = order_kept s codes fits.rises fits.in_order

pub both_order : (s next : Sum) (codes : List ℕ) → FitsInTurn s next codes → InOrder (applied_both s next) codes
both_order s next codes fit a b new_a new_b in_a in_b lt is_a is_b =
    let turn_a = in_turn s next a new_a is_a in
    let turn_b = in_turn s next b new_b is_b in
    let mids = first_order s codes fit.earlier a b turn_a.mid turn_b.mid in_a in_b lt turn_a.first turn_b.first in
    first_order next (list_after s codes) fit.later turn_a.mid turn_b.mid new_a new_b
    (after_image s codes turn_a.mid (image-of s codes a turn_a.mid in_a turn_a.first))
    (after_image s codes turn_b.mid (image-of s codes b turn_b.mid in_b turn_b.first))
    mids turn_a.second turn_b.second

-- ---- the composition

both_is : (s next : Sum) (codes : List ℕ) → both_on s next codes ≡ by (applied_both s next) codes (list_after next s.added)
unfolding both_on by
both_is s next codes = refl

both_moved : (s next : Sum) (codes : List ℕ) → (both_on s next codes).moved ≡ moved_by (applied_both s next) codes
unfolding both_on
both_moved s next codes = refl

both_dropped : (s next : Sum) (codes : List ℕ) → (both_on s next codes).dropped ≡ dropped_by (applied_both s next) codes
unfolding both_on
both_dropped s next codes = refl

pub both_added : (s next : Sum) (codes : List ℕ) → (both_on s next codes).added ≡ list_after next s.added
unfolding both_on
both_added s next codes = refl

pub applied-both : (s next : Sum) (codes : List ℕ) (n : ℕ) → IsIn n codes → applied (both_on s next codes) n ≡ applied_both s next n
applied-both s next codes n among = ap (λ (b : Sum). applied b n) (both_is s next codes) ∙ applied-by (applied_both s next) codes (list_after next s.added) n among

-- the images under both are the later one's images of the earlier one's
image_both : (s next : Sum) (codes : List ℕ) (n : ℕ) → IsIn n (images (both_on s next codes) codes) → ComesFrom next (images s codes) n
image_both s next codes n h =
    let from = image-comes (both_on s next codes) codes n h in
    let turn = in_turn s next from.old n (sym (applied-both s next codes from.old from.among) ∙ from.becomes) in
    record { old = turn.mid; among = image-of s codes from.old turn.mid from.among turn.first; becomes = turn.second }

both_image : (s next : Sum) (codes : List ℕ) (n : ℕ) → ComesFrom next (images s codes) n → IsIn n (images (both_on s next codes) codes)
both_image s next codes n later =
    let from = image-comes s codes later.old later.among in
    image-of (both_on s next codes) codes from.old n from.among (applied-both s next codes from.old from.among ∙ both_some s next from.old later.old from.becomes ∙ later.becomes)

-- a code that the later one gives for an added code of the earlier one isn't one that it gives for an image of it
added_apart : {P : Type 0} (s next : Sum) (codes : List ℕ) (n : ℕ) → FitsInTurn s next codes → IsIn n (list_after next s.added) → ComesFrom next (images s codes) n → P
added_apart s next codes n fit new image =
    let between = list_after s codes in
    let held = image-of next between image.old n (after_image s codes image.old image.among) image.becomes in
    elim (after_cases next s.added n new) [
      | inl later ↦ absurd (let e : true ≡ false = sym held ∙ fit.later.apart n later in cc)
      | inr earlier ↦
          let from = image-comes next s.added n earlier in
          let same = told_apart next between (first_order next between fit.later) from.old image.old n (after_added s codes from.old from.among) (after_image s codes image.old image.among) from.becomes image.becomes in
          absurd (let e : true ≡ false = sym image.among ∙ ap (λ (m : ℕ). holds m (images s codes)) (sym same) ∙ fit.earlier.apart from.old from.among in cc)
    ]

pub Fits-both : (s next : Sum) (codes : List ℕ) → FitsInTurn s next codes → Fits (both_on s next codes) codes
unfolding olds
Fits-both s next codes fit =
    let both = both_on s next codes in
    let becomes = applied_both s next in
    record {
      rises = fit.earlier.rises;
      dropped = λ n h. (dropped_vanishes becomes codes n (ap (holds n) (sym (both_dropped s next codes)) ∙ h)).among;
      moved = λ n h. (old_changes becomes codes n (ap (λ moved. holds n (olds moved)) (sym (both_moved s next codes)) ∙ h)).among;
      in_order = in_order both codes fit.earlier.rises (λ a b new_a new_b in_a in_b lt is_a is_b.
          both_order s next codes fit a b new_a new_b in_a in_b lt (sym (applied-both s next codes a in_a) ∙ is_a) (sym (applied-both s next codes b in_b) ∙ is_b));
      apart = λ n h. elim (cases_Bool (holds n (images both codes))) [
        | inl held ↦ added_apart s next codes n fit (ap (holds n) (sym (both_added s next codes)) ∙ h) (image_both s next codes n held)
        | inr free ↦ free
      ];
    }

-- ---- the list after both

-- a code of the list after both
to_turns : (s next : Sum) (codes : List ℕ) (n : ℕ) → IsIn n (list_after (both_on s next codes) codes) → IsIn n (list_after next (list_after s codes))
to_turns s next codes n h =
    let both = both_on s next codes in
    let between = list_after s codes in
    elim (after_cases both codes n h) [
      | inl new ↦ elim (after_cases next s.added n (ap (holds n) (sym (both_added s next codes)) ∙ new)) [
        | inl later ↦ after_added next between n later
        | inr earlier ↦
            let from = image-comes next s.added n earlier in
            after_image next between n (image-of next between from.old n (after_added s codes from.old from.among) from.becomes)
      ]
      | inr image ↦
          let from = image_both s next codes n image in
          after_image next between n (image-of next between from.old n (after_image s codes from.old from.among) from.becomes)
    ]

from_turns : (s next : Sum) (codes : List ℕ) (n : ℕ) → IsIn n (list_after next (list_after s codes)) → IsIn n (list_after (both_on s next codes) codes)
from_turns s next codes n h =
    let both = both_on s next codes in
    let between = list_after s codes in
    let new = λ (at : IsIn n (list_after next s.added)). after_added both codes n (ap (holds n) (both_added s next codes) ∙ at) in
    elim (after_cases next between n h) [
      | inl later ↦ new (after_added next s.added n later)
      | inr image ↦
          let from = image-comes next between n image in
          elim (after_cases s codes from.old from.among) [
            | inl added ↦ new (after_image next s.added n (image-of next s.added from.old n added from.becomes))
            | inr earlier ↦ after_image both codes n (both_image s next codes n (record { old = from.old; among = earlier; becomes = from.becomes }))
          ]
    ]

pub list_after-both : (s next : Sum) (codes : List ℕ) → FitsInTurn s next codes → list_after (both_on s next codes) codes ≡ list_after next (list_after s codes)
list_after-both s next codes fit =
    let both = both_on s next codes in
    let between = list_after s codes in
    same_members (list_after both codes) (list_after next between) (after_gathers both codes (Fits-both s next codes fit)).rises (after_gathers next between fit.later).rises
    (λ n. same_bool (holds n (list_after both codes)) (holds n (list_after next between)) (to_turns s next codes n) (from_turns s next codes n))

pub both_compose : (s next : Sum) (codes : List ℕ) → FitsInTurn s next codes → Composes s next (both_on s next codes) codes
both_compose s next codes fit =
    record {
      fits = Fits-both s next codes fit;
      gives = list_after-both s next codes fit;
      applies = applied-both s next codes;
      added = both_added s next codes;
    }

-- ---- in normal form

-- the later one's images of the earlier one's added codes increase
pub IsIncreasing-images_added : (s next : Sum) (codes : List ℕ) → IsNormal s → FitsInTurn s next codes → IsIncreasing (images next s.added)
IsIncreasing-images_added s next codes normal fit =
    in_order next s.added normal.increase.added (λ a b new_a new_b in_a in_b.
    first_order next (list_after s codes) fit.later a b new_a new_b (after_added s codes a in_a) (after_added s codes b in_b))

pub IsIncreasing-both_added : (s next : Sum) (codes : List ℕ) → IsNormal s → FitsInTurn s next codes → IsIncreasing (list_after next s.added)
unfolding list_after
IsIncreasing-both_added s next codes normal fit = IsIncreasing-put_all next.added (images next s.added) (IsIncreasing-images_added s next codes normal fit)

pub both_normal : (s next : Sum) (codes : List ℕ) → IsNormal s → FitsInTurn s next codes → IsNormal (both_on s next codes)
both_normal s next codes normal fit =
    subst IsNormal (sym (both_is s next codes)) (IsNormal-by (applied_both s next) codes (list_after next s.added) fit.earlier.rises (both_order s next codes fit) (IsIncreasing-both_added s next codes normal fit))
