-- The change that leaves all codes is the one whose lists are empty.
use Rattle.std.proofs.Common.{◌≡◌, ℕ, true, false, ◌==◌, List, [], ◌∷◌, length, refl, ap, ◌∙◌, sym, subst, arith}
use Rattle.std.proofs.lemmas.Bool.{eqb-true}
use Rattle.path_code.specs.declared.moves.Recode.{Recode}
use Rattle.path_code.specs.Sums.{Sum}
use Rattle.code_changes.specs.Normal.{IsNormal}
use Rattle.code_changes.specs.CompositionLaws.{unchanged}
use Rattle.code_changes.proofs.Leading.{same_sum}
use Rattle.code_changes.proofs.Neutral.{unchanged_normal}

nothing : (let s : Sum = record { moved = []; dropped = []; added = [] } in s) ≡ unchanged
unfolding unchanged
nothing = refl

pub all_empty : (moved : List Recode) (dropped added : List ℕ) → moved ≡ [] → dropped ≡ [] → added ≡ [] → (let s : Sum = record { moved = moved; dropped = dropped; added = added } in s) ≡ unchanged
all_empty moved dropped added a b c = same_sum moved [] dropped [] added [] a b c ∙ nothing

pub empty_normal : (moved : List Recode) (dropped added : List ℕ) → moved ≡ [] → dropped ≡ [] → added ≡ [] → IsNormal (record { moved = moved; dropped = dropped; added = added })
empty_normal moved dropped added a b c = subst IsNormal (sym (all_empty moved dropped added a b c)) unchanged_normal

-- an answer about one list
none_of : {A : Type 0} (xs : List A) → (length xs == 0) ≡ true → xs ≡ []
none_of [] h = refl
none_of (x ∷ xs) h = absurd (let e = eqb-true (length (x ∷ xs)) 0 h in omega arith)

some_of : {A : Type 0} (xs : List A) → (length xs == 0) ≡ false → xs ≡ [] → false ≡ true
some_of [] h e = sym h
some_of (x ∷ xs) h e = absurd (cc)

moved_nothing : unchanged.moved ≡ []
unfolding unchanged
moved_nothing = refl

dropped_nothing : unchanged.dropped ≡ []
unfolding unchanged
dropped_nothing = refl

added_nothing : unchanged.added ≡ []
unfolding unchanged
added_nothing = refl

-- by the answers about the three lists
pub first_full : (s : Sum) → (length s.moved == 0) ≡ false → s ≡ unchanged → false ≡ true
first_full s h e = some_of s.moved h (ap (λ (t : Sum). t.moved) e ∙ moved_nothing)

pub second_full : (s : Sum) → (length s.dropped == 0) ≡ false → s ≡ unchanged → false ≡ true
second_full s h e = some_of s.dropped h (ap (λ (t : Sum). t.dropped) e ∙ dropped_nothing)

pub third_told : (s : Sum) → s ≡ unchanged → (length s.added == 0) ≡ true
third_told s e = ap (λ (xs : List ℕ). length xs == 0) (ap (λ (t : Sum). t.added) e ∙ added_nothing)

pub three_empty : (s : Sum) → (length s.moved == 0) ≡ true → (length s.dropped == 0) ≡ true → (length s.added == 0) ≡ true → s ≡ unchanged
three_empty s a b c = all_empty s.moved s.dropped s.added (none_of s.moved a) (none_of s.dropped b) (none_of s.added c)
