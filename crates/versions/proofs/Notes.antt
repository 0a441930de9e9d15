-- What is noted of operations: at a place of a list, and of one log after another.
use Rattle.std.proofs.Common.{◌≡◌, ℕ, suc, zero, ◌≤◌, List, [], ◌∷◌, ◌++◌, length, take, drop, refl, ap, sym, ◌∙◌, arith, append_assoc}
use Rattle.std.proofs.lemmas.List.{append-nil}
use Rattle.path_code.specs.Sums.{Sum}
use Rattle.versions.specs.declared.draft.Logged.{Logged}
use Rattle.versions.specs.Summed.{one_at, noted, all_noted}

pub one_at-take : {A : Type 0} (xs : List A) (place : ℕ) → take 1 (drop place xs) ≡ one_at xs place
unfolding one_at
one_at-take [] zero = refl
one_at-take [] (suc place) = refl
one_at-take (x ∷ xs) zero = refl
one_at-take (x ∷ xs) (suc place) = one_at-take xs place

pub one_at-past : {A : Type 0} (xs : List A) (place : ℕ) → length xs ≤ place → [] ≡ one_at xs place
unfolding one_at
one_at-past [] place h = refl
one_at-past (x ∷ xs) zero h = absurd (omega (arith, h))
one_at-past (x ∷ xs) (suc place) h = one_at-past xs place (omega (arith, h))

pub all_noted-append : (earlier later : List Logged) (column : ℕ) → all_noted (earlier ++ later) column ≡ all_noted earlier column ++ all_noted later column
unfolding all_noted
all_noted-append [] later column = refl
all_noted-append (entry ∷ earlier) later column = ap (λ (rest : List Sum). noted entry column ++ rest) (all_noted-append earlier later column) ∙ sym (append_assoc (noted entry column) (all_noted earlier column) (all_noted later column))

pub all_noted-one : (entry : Logged) (column : ℕ) → all_noted (entry ∷ []) column ≡ noted entry column
unfolding all_noted
all_noted-one entry column = append-nil (noted entry column)

pub all_noted-none : (log : List Logged) (column : ℕ) → length log ≡ 0 → all_noted log column ≡ []
unfolding all_noted
all_noted-none [] column h = refl
all_noted-none (entry ∷ log) column h = absurd (omega (arith, h))
