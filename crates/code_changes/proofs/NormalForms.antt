-- Changes in normal form: those that move nothing, and those that take some codes of an increasing list.
use Rattle.std.proofs.Common.{◌≡◌, ℕ, true, false, List, [], ◌∷◌, map, refl, ap, ◌∙◌, sym, subst, inl, inr}
use Rattle.std.proofs.lemmas.Bool.{cases_eq, cases_Bool}
use Rattle.tree_model.specs.Places.{holds, IsIncreasing}
use Rattle.path_code.specs.declared.moves.Recode.{Recode}
use Rattle.path_code.specs.Sums.{Sum}
use Rattle.path_code.specs.SumLaws.{Increase}
use Rattle.code_changes.specs.Changes.{IsIn, differing, with_rows, without_rows}
use Rattle.code_changes.specs.Normal.{olds, Differ, IsNormal}
use Rattle.code_changes.proofs.Lists.{holds-nil}
use Rattle.code_changes.proofs.Rows.{with-apart}
use Rattle.code_changes.proofs.Pairs.{differing-same, differing-other, IsIn-differing}
use Rattle.code_changes.proofs.Becoming.{olds-nil}
use Rattle.code_changes.proofs.Told.{differ-nil}

-- ---- nothing moves

pub nothing_moves : (s : Sum) → s.moved ≡ [] → Increase s → IsNormal s
nothing_moves s none increase =
    record {
      increase = increase;
      apart = λ n h. ap (λ (moved : List Recode). holds n (olds moved)) none ∙ ap (holds n) olds-nil ∙ holds-nil n;
      differ = subst Differ (sym none) differ-nil;
    }

-- ---- the pairs of two lists that differ

differ-cons : (x y : ℕ) (xs ys : List ℕ) → (x ≡ y → ⊥) → Differ (differing xs ys) → Differ (record { old = x; new = y } ∷ differing xs ys)
unfolding Differ
differ-cons x y xs ys other rest = (other, rest)

differing-short : (x : ℕ) (xs : List ℕ) → differing (x ∷ xs) [] ≡ []
unfolding differing
differing-short x xs = refl

differing-nil : (ys : List ℕ) → differing [] ys ≡ []
unfolding differing
differing-nil ys = refl

pub differ-differing : (xs ys : List ℕ) → Differ (differing xs ys)
differ-differing [] ys = subst Differ (sym (differing-nil ys)) differ-nil
differ-differing (x ∷ xs) [] = subst Differ (sym (differing-short x xs)) differ-nil
differ-differing (x ∷ xs) (y ∷ ys) =
    elim (cases_eq x y) [
      | inl same ↦ subst Differ (sym (differing-same x y xs ys same)) (differ-differing xs ys)
      | inr other ↦ subst Differ (sym (differing-other x y xs ys other)) (differ-cons x y xs ys other (differ-differing xs ys))
    ]

-- ---- some codes of an increasing list are taken, and the others dropped

-- the change that takes the codes with counts to other codes, and drops those without
unfoldable pub taking : List ℕ → List ℕ → List ℕ → List ℕ → Sum
taking counts codes news added = record { moved = differing (with_rows counts codes) news; dropped = without_rows counts codes; added = added }

taken_apart : (counts codes news added : List ℕ) → IsIncreasing codes → (n : ℕ) → IsIn n (taking counts codes news added).dropped → holds n (olds (taking counts codes news added).moved) ≡ false
unfolding taking olds
taken_apart counts codes news added up n h =
    elim (cases_Bool (holds n (map (λ pair. pair.old) (differing (with_rows counts codes) news)))) [
      | inl held ↦ absurd (let e : true ≡ false = sym (IsIn-differing n (with_rows counts codes) news held) ∙ with-apart n counts codes up h in cc)
      | inr free ↦ free
    ]

taken_differ : (counts codes news added : List ℕ) → Differ (taking counts codes news added).moved
unfolding taking
taken_differ counts codes news added = differ-differing (with_rows counts codes) news

pub taking_normal : (counts codes news added : List ℕ) → IsIncreasing codes → Increase (taking counts codes news added) → IsNormal (taking counts codes news added)
taking_normal counts codes news added up increase =
    record { increase = increase; apart = taken_apart counts codes news added up; differ = taken_differ counts codes news added }
