-- Compositions associate, and the change that leaves all codes is neutral.
use Rattle.std.proofs.Common.{◌≡◌, ℕ, List, [], ◌∷◌, map, Some, refl, ap, ◌∙◌, sym, subst, inl, inr}
use Rattle.tree_model.specs.Places.{holds, IsIncreasing}
use Rattle.path_code.specs.declared.moves.Recode.{Recode}
use Rattle.path_code.specs.Sums.{Sum}
use Rattle.code_changes.specs.Changes.{IsIn, new_code, none_if, applied, images, put_all, list_after, Fits}
use Rattle.code_changes.specs.Normal.{olds, Differ, IsNormal}
use Rattle.code_changes.specs.Compositions.{applied_both, both_on, FitsInTurn}
use Rattle.code_changes.specs.CompositionLaws.{unchanged, IsNeutral}
use Rattle.code_changes.proofs.After.{after_gathers, image-of}
use Rattle.code_changes.proofs.Orders.{nowhere, images-some}
use Rattle.code_changes.proofs.Becoming.{cases_Option}
use Rattle.code_changes.proofs.Both.{after_image, both_none, both_some, applied-both, both_compose, both_normal}
use Rattle.code_changes.proofs.Told.{told}

-- ---- three changes

-- what becomes of a code under three changes in turn
three : (s next last : Sum) (codes : List ℕ) → FitsInTurn s next codes → (n : ℕ) → IsIn n codes → applied_both (both_on s next codes) last n ≡ applied_both s (both_on next last (list_after s codes)) n
three s next last codes fit n h =
    let ab = both_on s next codes in
    let bc = both_on next last (list_after s codes) in
    elim (cases_Option (applied s n)) [
      | inl none ↦ both_none ab last n (applied-both s next codes n h ∙ both_none s next n none) ∙ sym (both_none s bc n none)
      | inr first ↦
          let mid = first.new in
          let between = after_image s codes mid (image-of s codes n mid h first.is) in
          let right = both_some s bc n mid first.is ∙ applied-both next last (list_after s codes) mid between in
          let left = applied-both s next codes n h ∙ both_some s next n mid first.is in
          elim (cases_Option (applied next mid)) [
            | inl none ↦ both_none ab last n (left ∙ none) ∙ sym (right ∙ both_none next last mid none)
            | inr second ↦ both_some ab last n second.new (left ∙ second.is) ∙ sym (right ∙ both_some next last mid second.new second.is)
          ]
    ]

pub both_associate : (s next last : Sum) (codes : List ℕ) → IsNormal s → FitsInTurn s next codes → Fits last (list_after next (list_after s codes)) → both_on (both_on s next codes) last codes ≡ both_on s (both_on next last (list_after s codes)) codes
both_associate s next last codes normal fit fits =
    let ab = both_on s next codes in
    let bc = both_on next last (list_after s codes) in
    let first = both_compose s next codes fit in
    let later : FitsInTurn next last (list_after s codes) = record { earlier = fit.later; later = fits } in
    let second = both_compose next last (list_after s codes) later in
    let fit_left : FitsInTurn ab last codes = record { earlier = first.fits; later = subst (λ (xs : List ℕ). Fits last xs) (sym first.gives) fits } in
    let fit_right : FitsInTurn s bc codes = record { earlier = fit.earlier; later = second.fits } in
    let left = both_compose ab last codes fit_left in
    let right = both_compose s bc codes fit_right in
    told (both_on ab last codes) (both_on s bc codes) codes
    (both_normal ab last codes (both_normal s next codes normal fit) fit_left)
    (both_normal s bc codes normal fit_right)
    left.fits right.fits
    (λ n h. applied-both ab last codes n h ∙ three s next last codes fit n h ∙ sym (applied-both s bc codes n h))
    (left.gives ∙ ap (list_after last) first.gives ∙ sym (right.gives ∙ second.gives))

-- ---- the change that leaves all codes

applied-unchanged : (n : ℕ) → applied unchanged n ≡ Some n
unfolding applied none_if unchanged holds new_code
applied-unchanged n = refl

images-none : images unchanged [] ≡ []
unfolding images
images-none = refl

images-unchanged : (codes : List ℕ) → images unchanged codes ≡ codes
images-unchanged [] = images-none
images-unchanged (x ∷ codes) = images-some unchanged x x codes (applied-unchanged x) ∙ ap (λ (xs : List ℕ). x ∷ xs) (images-unchanged codes)

after-alone : (codes : List ℕ) → list_after unchanged codes ≡ images unchanged codes
unfolding list_after unchanged put_all
after-alone codes = refl

after-unchanged : (codes : List ℕ) → list_after unchanged codes ≡ codes
after-unchanged codes = after-alone codes ∙ images-unchanged codes

no_dropped : (n : ℕ) → IsIn n unchanged.dropped → IsIn n []
unfolding unchanged
no_dropped n h = h

no_added : (n : ℕ) → IsIn n unchanged.added → IsIn n []
unfolding unchanged
no_added n h = h

no_moved : (n : ℕ) → IsIn n (map (λ (pair : Recode). pair.old) unchanged.moved) → IsIn n []
unfolding unchanged
no_moved n h = h

pub unchanged_fits : (codes : List ℕ) → IsIncreasing codes → Fits unchanged codes
unchanged_fits codes up =
    record {
      rises = up;
      dropped = λ n h. nowhere n (no_dropped n h);
      moved = λ n h. nowhere n (no_moved n h);
      in_order = subst IsIncreasing (sym (images-unchanged codes)) up;
      apart = λ n h. nowhere n (no_added n h);
    }

pub unchanged_normal : IsNormal unchanged
unfolding unchanged IsIncreasing Differ olds
unchanged_normal = record { increase = record { old = tt; new = tt; dropped = tt; added = tt }; apart = λ n h. nowhere n h; differ = tt }

neutral_before : (s : Sum) (codes : List ℕ) → IsNormal s → Fits s codes → both_on unchanged s codes ≡ s
neutral_before s codes normal fits =
    let fit : FitsInTurn unchanged s codes = record { earlier = unchanged_fits codes fits.rises; later = subst (λ (xs : List ℕ). Fits s xs) (sym (after-unchanged codes)) fits } in
    let both = both_compose unchanged s codes fit in
    told (both_on unchanged s codes) s codes (both_normal unchanged s codes unchanged_normal fit) normal both.fits fits
    (λ n h. applied-both unchanged s codes n h ∙ both_some unchanged s n n (applied-unchanged n))
    (both.gives ∙ ap (list_after s) (after-unchanged codes))

neutral_after : (s : Sum) (codes : List ℕ) → IsNormal s → Fits s codes → both_on s unchanged codes ≡ s
neutral_after s codes normal fits =
    let fit : FitsInTurn s unchanged codes = record { earlier = fits; later = unchanged_fits (list_after s codes) (after_gathers s codes fits).rises } in
    let both = both_compose s unchanged codes fit in
    told (both_on s unchanged codes) s codes (both_normal s unchanged codes normal fit) normal both.fits fits
    (λ n h. applied-both s unchanged codes n h ∙ elim (cases_Option (applied s n)) [
      | inl none ↦ both_none s unchanged n none ∙ sym none
      | inr some ↦ both_some s unchanged n some.new some.is ∙ applied-unchanged some.new ∙ sym some.is
    ])
    (both.gives ∙ after-unchanged (list_after s codes))

pub neutral : (s : Sum) (codes : List ℕ) → IsNormal s → Fits s codes → IsNeutral s codes
neutral s codes normal fits = record { before = neutral_before s codes normal fits; after = neutral_after s codes normal fits }
