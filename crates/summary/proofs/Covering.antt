-- Which codes two changes in turn may move or drop: of a list that they fit in turn, the others stay.
use Rattle.std.proofs.Common.{◌≡◌, ◌⊎◌, ℕ, Bool, true, false, ◌||◌, List, [], ◌∷◌, Option, Some, None, refl, ap, ap₂, ◌∙◌, sym, subst, inl, inr, arith}
use Rattle.std.proofs.lemmas.Bool.{cases_eq, cases_Bool}
use Rattle.tree_model.specs.Places.{holds, IsBelowAll, IsIncreasing}
use Rattle.tree_model.proofs.Ordered.{holds-cons_eq, IsIncreasing-nil}
use Rattle.path_code.specs.declared.moves.Recode.{Recode}
use Rattle.path_code.specs.Sums.{unless, Sum}
use Rattle.code_changes.specs.Changes.{IsIn, new_code, applied, images, put_all, list_after, Fits}
use Rattle.code_changes.specs.Normal.{olds, news, IsNormal}
use Rattle.code_changes.specs.Compositions.{applied_both, moved_by, dropped_by, both_on, FitsInTurn}
use Rattle.code_changes.proofs.Lists.{IsIn-cons, lt_of_IsIn, same_members}
use Rattle.code_changes.proofs.Rows.{IsIn-rest}
use Rattle.code_changes.proofs.Pairs.{new_code-here, new_code-past}
use Rattle.code_changes.proofs.After.{applied-dropped, applied-kept, image-comes, image-of, IsIncreasing-put_all, holds-put_all}
use Rattle.code_changes.proofs.Orders.{nowhere, first_in, same_bool, IsBelowAll-members, IsIncreasing-rest, IsBelowAll-first, IsIncreasing-cons, told_apart}
use Rattle.code_changes.proofs.Becoming.{olds-cons, news-cons, olds-nil, news-nil, new_code-free, old_changes, changes_old, dropped_vanishes, vanishes_dropped, IsIncreasing-dropped_by, olds-up, new_code-by}
use Rattle.code_changes.proofs.Both.{or_cases, after_cases, first_order, both_some}
use Rattle.code_changes.proofs.Leading.{same_sum}
use Rattle.code_changes.proofs.Told.{moved_kept, pairs_told}
use Rattle.summary.specs.Candidates.{taken, given, others, candidates}

-- ---- what becomes of a part of a list, where the rest stays

-- the codes of a list that change are in a part of it
record Covers (f : ℕ → Option ℕ) (part whole : List ℕ) : Type 0 where
  part_up : IsIncreasing part
  whole_up : IsIncreasing whole
  within : (n : ℕ) → IsIn n part → IsIn n whole
  stay : (n : ℕ) → IsIn n whole → holds n part ≡ false → f n ≡ Some n

-- a code of the list that doesn't stay is in the part
in_part : (f : ℕ → Option ℕ) (part whole : List ℕ) (n : ℕ) → Covers f part whole → IsIn n whole → (f n ≡ Some n → ⊥) → IsIn n part
in_part f part whole n covers among changes =
    elim (cases_Bool (holds n part)) [ inl held ↦ held | inr free ↦ absurd (changes (covers.stay n among free)) ]

part_dropped : (f : ℕ → Option ℕ) (part whole : List ℕ) → Covers f part whole → dropped_by f part ≡ dropped_by f whole
part_dropped f part whole covers =
    same_members (dropped_by f part) (dropped_by f whole) (IsIncreasing-dropped_by f part covers.part_up) (IsIncreasing-dropped_by f whole covers.whole_up) (λ n.
    same_bool (holds n (dropped_by f part)) (holds n (dropped_by f whole))
    (λ h. let v = dropped_vanishes f part n h in vanishes_dropped f whole n (covers.within n v.among) v.becomes)
    (λ h. let v = dropped_vanishes f whole n h in
    vanishes_dropped f part n (in_part f part whole n covers v.among (λ e. let bad : None ≡ Some n = sym v.becomes ∙ e in cc)) v.becomes))

part_moved : (f : ℕ → Option ℕ) (part whole : List ℕ) → Covers f part whole → moved_by f part ≡ moved_by f whole
part_moved f part whole covers =
    let up = olds-up f part covers.part_up in
    let same = same_members (olds (moved_by f part)) (olds (moved_by f whole)) up (olds-up f whole covers.whole_up) (λ n.
    same_bool (holds n (olds (moved_by f part))) (holds n (olds (moved_by f whole)))
    (λ h. let o = old_changes f part n h in changes_old f whole n o.new (covers.within n o.among) o.becomes o.other)
    (λ h. let o = old_changes f whole n h in
    changes_old f part n o.new (in_part f part whole n covers o.among (λ e. o.other (let bad : Some n ≡ Some o.new = sym e ∙ o.becomes in cc))) o.becomes o.other)) in
    pairs_told (moved_by f part) (moved_by f whole) up same (λ n h.
    let o = old_changes f part n h in
    new_code-by f part n o.new o.among o.becomes ∙ sym (new_code-by f whole n o.new (covers.within n o.among) o.becomes))

-- ---- the words

taken_cases : (s : Sum) (n : ℕ) → IsIn n (taken s) → (IsIn n (olds s.moved)) ⊎ (IsIn n s.dropped)
unfolding taken
taken_cases s n h = or_cases (holds n (olds s.moved)) (holds n s.dropped) (sym (holds-put_all n (olds s.moved) s.dropped) ∙ h)

or_no : (a b : Bool) → a || b ≡ false → (a ≡ false) × (b ≡ false)
or_no true b h = absurd (cc)
or_no false b h = (refl, h)

taken_no : (s : Sum) (n : ℕ) → holds n (taken s) ≡ false → (holds n (olds s.moved) ≡ false) × (holds n s.dropped ≡ false)
unfolding taken
taken_no s n h = or_no (holds n (olds s.moved)) (holds n s.dropped) (sym (holds-put_all n (olds s.moved) s.dropped) ∙ h)

given_cases : (s : Sum) (n : ℕ) → IsIn n (given s) → (IsIn n (news s.moved)) ⊎ (IsIn n s.added)
unfolding given
given_cases s n h = or_cases (holds n (news s.moved)) (holds n s.added) (sym (holds-put_all n (news s.moved) s.added) ∙ h)

given_no : (s : Sum) (n : ℕ) → holds n (given s) ≡ false → (holds n (news s.moved) ≡ false) × (holds n s.added ≡ false)
unfolding given
given_no s n h = or_no (holds n (news s.moved)) (holds n s.added) (sym (holds-put_all n (news s.moved) s.added) ∙ h)

others-nil : (excluded : List ℕ) → others excluded [] ≡ []
unfolding others
others-nil excluded = refl

others-yes : (excluded : List ℕ) (x : ℕ) (xs : List ℕ) → holds x excluded ≡ true → others excluded (x ∷ xs) ≡ others excluded xs
unfolding others unless
others-yes excluded x xs h = rw h refl

others-no : (excluded : List ℕ) (x : ℕ) (xs : List ℕ) → holds x excluded ≡ false → others excluded (x ∷ xs) ≡ x ∷ others excluded xs
unfolding others unless
others-no excluded x xs h = rw h refl

in_others : (excluded xs : List ℕ) (n : ℕ) → IsIn n (others excluded xs) → IsIn n xs × (holds n excluded ≡ false)
in_others excluded [] n h = nowhere n (ap (holds n) (sym (others-nil excluded)) ∙ h)
in_others excluded (x ∷ xs) n h =
    elim (cases_Bool (holds x excluded)) [
      | inl out ↦
          let rest = in_others excluded xs n (ap (holds n) (sym (others-yes excluded x xs out)) ∙ h) in
          (IsIn-cons n x xs rest.0, rest.1)
      | inr kept ↦
          let at : IsIn n (x ∷ others excluded xs) = ap (holds n) (sym (others-no excluded x xs kept)) ∙ h in
          elim (cases_eq x n) [
            | inl here ↦ (holds-cons_eq n x xs here, ap (λ (m : ℕ). holds m excluded) (sym here) ∙ kept)
            | inr past ↦ (let rest = in_others excluded xs n (IsIn-rest n x (others excluded xs) past at) in (IsIn-cons n x xs rest.0, rest.1))
          ]
    ]

others_in : (excluded xs : List ℕ) (n : ℕ) → IsIn n xs → holds n excluded ≡ false → IsIn n (others excluded xs)
others_in excluded [] n among free = nowhere n among
others_in excluded (x ∷ xs) n among free =
    elim (cases_eq x n) [
      | inl here ↦ ap (holds n) (others-no excluded x xs (ap (λ (m : ℕ). holds m excluded) here ∙ free)) ∙ holds-cons_eq n x (others excluded xs) here
      | inr past ↦
          let rest = others_in excluded xs n (IsIn-rest n x xs past among) free in
          elim (cases_Bool (holds x excluded)) [
            | inl out ↦ ap (holds n) (others-yes excluded x xs out) ∙ rest
            | inr kept ↦ ap (holds n) (others-no excluded x xs kept) ∙ IsIn-cons n x (others excluded xs) rest
          ]
    ]

pub IsIncreasing-others : (excluded xs : List ℕ) → IsIncreasing xs → IsIncreasing (others excluded xs)
IsIncreasing-others excluded [] up = subst IsIncreasing (sym (others-nil excluded)) IsIncreasing-nil
IsIncreasing-others excluded (x ∷ xs) up =
    let rest = IsIncreasing-others excluded xs (IsIncreasing-rest x xs up) in
    elim (cases_Bool (holds x excluded)) [
      | inl out ↦ subst IsIncreasing (sym (others-yes excluded x xs out)) rest
      | inr kept ↦
          let above : IsBelowAll x (others excluded xs) = IsBelowAll-members x (others excluded xs) (λ n h. lt_of_IsIn x n xs (IsBelowAll-first x xs up) (in_others excluded xs n h).0) in
          subst IsIncreasing (sym (others-no excluded x xs kept)) (IsIncreasing-cons x (others excluded xs) above rest)
    ]

candidate_cases : (s next : Sum) (n : ℕ) → IsIn n (candidates s next) → (IsIn n (taken s)) ⊎ (IsIn n (others (given s) (taken next)))
unfolding candidates
candidate_cases s next n h = or_cases (holds n (taken s)) (holds n (others (given s) (taken next))) (sym (holds-put_all n (taken s) (others (given s) (taken next))) ∙ h)

candidate_no : (s next : Sum) (n : ℕ) → holds n (candidates s next) ≡ false → (holds n (taken s) ≡ false) × (holds n (others (given s) (taken next)) ≡ false)
unfolding candidates
candidate_no s next n h = or_no (holds n (taken s)) (holds n (others (given s) (taken next))) (sym (holds-put_all n (taken s) (others (given s) (taken next))) ∙ h)

IsIncreasing-taken : (s : Sum) → IsIncreasing s.dropped → IsIncreasing (taken s)
unfolding taken
IsIncreasing-taken s up = IsIncreasing-put_all (olds s.moved) s.dropped up

IsIncreasing-candidates : (s next : Sum) → IsIncreasing next.dropped → IsIncreasing (candidates s next)
unfolding candidates
IsIncreasing-candidates s next up = IsIncreasing-put_all (taken s) (others (given s) (taken next)) (IsIncreasing-others (given s) (taken next) (IsIncreasing-taken next up))

-- ---- what is taken stands in the list

taken_among : (s : Sum) (codes : List ℕ) (n : ℕ) → Fits s codes → IsIn n (taken s) → IsIn n codes
unfolding olds
taken_among s codes n fits h = elim (taken_cases s n h) [ inl old ↦ fits.moved n old | inr out ↦ fits.dropped n out ]

-- the new code of a pair is one of the new codes
new_in : (moved : List Recode) (n : ℕ) → IsIn n (olds moved) → IsIn (new_code moved n) (news moved)
new_in [] n h = nowhere n (ap (holds n) (sym olds-nil) ∙ h)
new_in (pair ∷ moved) n h =
    elim (cases_eq pair.old n) [
      | inl here ↦ ap₂ holds (new_code-here pair moved n here) (news-cons pair moved) ∙ first_in pair.new (news moved)
      | inr past ↦
          let rest = new_in moved n (IsIn-rest n pair.old (olds moved) past (ap (holds n) (sym (olds-cons pair moved)) ∙ h)) in
          ap₂ holds (new_code-past pair moved n past) (news-cons pair moved) ∙ IsIn-cons (new_code moved n) pair.new (news moved) rest
    ]

-- a code that stays where it is
stays_at : (s : Sum) (n : ℕ) → holds n (taken s) ≡ false → applied s n ≡ Some n
stays_at s n free = let no_ = taken_no s n free in applied-kept s n no_.1 ∙ ap (λ (m : ℕ). Some m) (new_code-free s.moved n no_.0)

-- what isn't dropped becomes its new code
becomes_new : (s : Sum) (n new : ℕ) → applied s n ≡ Some new → new_code s.moved n ≡ new
becomes_new s n new is =
    elim (cases_Bool (holds n s.dropped)) [
      | inl out ↦ absurd (let e : None ≡ Some new = sym (applied-dropped s n out) ∙ is in cc)
      | inr kept ↦ (let e : Some (new_code s.moved n) ≡ Some new = sym (applied-kept s n kept) ∙ is in cc)
    ]

-- a code that stands after a change which doesn't give it stood there before
stood_before : (s : Sum) (codes : List ℕ) (n : ℕ) → IsIn n (list_after s codes) → holds n (given s) ≡ false → IsIn n codes
stood_before s codes n h free =
    let no_ = given_no s n free in
    elim (after_cases s codes n h) [
      | inl new ↦ absurd (let e : true ≡ false = sym new ∙ no_.1 in cc)
      | inr image ↦
          let from = image-comes s codes n image in
          let new = becomes_new s from.old n from.becomes in
          elim (cases_Bool (holds from.old (olds s.moved))) [
            | inl moves ↦ absurd (let e : true ≡ false = sym (new_in s.moved from.old moves) ∙ ap (λ (m : ℕ). holds m (news s.moved)) new ∙ no_.0 in cc)
            | inr stays ↦ (let same : from.old ≡ n = sym (new_code-free s.moved from.old stays) ∙ new in ap (λ (m : ℕ). holds m codes) (sym same) ∙ from.among)
          ]
    ]

candidates_within : (s next : Sum) (codes : List ℕ) → FitsInTurn s next codes → (n : ℕ) → IsIn n (candidates s next) → IsIn n codes
candidates_within s next codes fit n h =
    elim (candidate_cases s next n h) [
      | inl earlier ↦ taken_among s codes n fit.earlier earlier
      | inr later ↦
          let at = in_others (given s) (taken next) n later in
          stood_before s codes n (taken_among next (list_after s codes) n fit.later at.0) at.1
    ]

-- ---- the other codes stay

-- a new code is the new code of a pair
record IsNewOf (moved : List Recode) (n : ℕ) : Type 0 where
  old : ℕ
  among : IsIn old (olds moved)
  is : new_code moved old ≡ n

new_of : (moved : List Recode) (n : ℕ) → IsIncreasing (olds moved) → IsIn n (news moved) → IsNewOf moved n
new_of [] n up h = nowhere n (ap (holds n) (sym news-nil) ∙ h)
new_of (pair ∷ moved) n up h =
    let rise : IsIncreasing (pair.old ∷ olds moved) = subst IsIncreasing (olds-cons pair moved) up in
    elim (cases_eq pair.new n) [
      | inl here ↦ record { old = pair.old; among = ap (holds pair.old) (olds-cons pair moved) ∙ first_in pair.old (olds moved); is = new_code-here pair moved pair.old refl ∙ here }
      | inr past ↦
          let rest = new_of moved n (IsIncreasing-rest pair.old (olds moved) rise) (IsIn-rest n pair.new (news moved) past (ap (holds n) (sym (news-cons pair moved)) ∙ h)) in
          let above = lt_of_IsIn pair.old rest.old (olds moved) (IsBelowAll-first pair.old (olds moved) rise) rest.among in
          record {
            old = rest.old;
            among = ap (holds rest.old) (olds-cons pair moved) ∙ IsIn-cons rest.old pair.old (olds moved) rest.among;
            is = new_code-past pair moved rest.old (λ e. omega arith) ∙ rest.is;
          }
    ]

old_among : (s : Sum) (codes : List ℕ) → Fits s codes → (n : ℕ) → IsIn n (olds s.moved) → IsIn n codes
unfolding olds
old_among s codes fits n h = fits.moved n h

olds_rise : (s : Sum) → IsNormal s → IsIncreasing (olds s.moved)
unfolding olds
olds_rise s normal = normal.increase.old

-- a code of the list that a change doesn't take is none that it gives
not_given : (s : Sum) (codes : List ℕ) (n : ℕ) → IsNormal s → Fits s codes → IsIn n codes → holds n (taken s) ≡ false → holds n (given s) ≡ false
not_given s codes n normal fits among free =
    let stays = stays_at s n free in
    elim (cases_Bool (holds n (given s))) [
      | inr other ↦ other
      | inl gives ↦ elim (given_cases s n gives) [
        | inr new ↦ absurd (let e : true ≡ false = sym (image-of s codes n n among stays) ∙ fits.apart n new in cc)
        | inl moved ↦
            let from = new_of s.moved n (olds_rise s normal) moved in
            let becomes = applied-kept s from.old (moved_kept s from.old normal from.among) ∙ ap (λ (m : ℕ). Some m) from.is in
            let same = told_apart s codes (first_order s codes fits) from.old n n (old_among s codes fits from.old from.among) among becomes stays in
            absurd (let e : true ≡ false = sym from.among ∙ ap (λ (m : ℕ). holds m (olds s.moved)) same ∙ (taken_no s n free).0 in cc)
      ]
    ]

others_stay : (s next : Sum) (codes : List ℕ) → IsNormal s → FitsInTurn s next codes → (n : ℕ) → IsIn n codes → holds n (candidates s next) ≡ false → applied_both s next n ≡ Some n
others_stay s next codes normal fit n among free =
    let no_ = candidate_no s next n free in
    let later : holds n (taken next) ≡ false = elim (cases_Bool (holds n (taken next))) [
      | inr out ↦ out
      | inl held ↦ absurd (let e : true ≡ false = sym (others_in (given s) (taken next) n held (not_given s codes n normal fit.earlier among no_.0)) ∙ no_.1 in cc)
    ] in
    both_some s next n n (stays_at s n no_.0) ∙ stays_at next n later

covers : (s next : Sum) (codes : List ℕ) → IsNormal s → IsIncreasing next.dropped → FitsInTurn s next codes → Covers (applied_both s next) (candidates s next) codes
covers s next codes normal up fit =
    record {
      part_up = IsIncreasing-candidates s next up;
      whole_up = fit.earlier.rises;
      within = candidates_within s next codes fit;
      stay = others_stay s next codes normal fit;
    }

-- so both in turn do to the list what they do to the candidates
pub both_on-candidates : (s next : Sum) (codes : List ℕ) → IsNormal s → IsIncreasing next.dropped → FitsInTurn s next codes → both_on s next (candidates s next) ≡ both_on s next codes
unfolding both_on
both_on-candidates s next codes normal up fit =
    let c = covers s next codes normal up fit in
    ap₂ (λ (moved : List Recode) (dropped : List ℕ). let both : Sum = record { moved = moved; dropped = dropped; added = list_after next s.added } in both)
    (part_moved (applied_both s next) (candidates s next) codes c)
    (part_dropped (applied_both s next) (candidates s next) codes c)

-- what is made of the candidates is the composition
pub composed_is : (s next : Sum) (codes found : List ℕ) (moved : List Recode) (dropped added : List ℕ) → IsNormal s → IsNormal next → FitsInTurn s next codes → found ≡ candidates s next → moved ≡ moved_by (applied_both s next) found → dropped ≡ dropped_by (applied_both s next) found → added ≡ list_after next s.added → (let both : Sum = record { moved = moved; dropped = dropped; added = added } in both) ≡ both_on s next codes
unfolding both_on
composed_is s next codes found moved dropped added normal normal_next fit is moved_is dropped_is added_is =
    let becomes = applied_both s next in
    same_sum moved (moved_by becomes (candidates s next)) dropped (dropped_by becomes (candidates s next)) added (list_after next s.added)
    (moved_is ∙ ap (moved_by becomes) is) (dropped_is ∙ ap (dropped_by becomes) is) added_is
    ∙ both_on-candidates s next codes normal normal_next.increase.dropped fit

-- the added codes of the later change and its images of the earlier one's
pub added_after : (s next : Sum) (first second : List ℕ) → first ≡ next.added → second ≡ images next s.added → put_all first second ≡ list_after next s.added
unfolding list_after
added_after s next first second a b = ap₂ put_all a b
