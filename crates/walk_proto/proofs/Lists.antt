-- Lists by their first elements.
use Rattle.std.proofs.Common.{◌≡◌, ◌≤◌, ℕ, List, [], ◌∷◌, length, drop, refl, arith}
use Rattle.std.proofs.lemmas.List.{nil_from_length}
use Rattle.walk_proto.specs.Faults.{at}

-- nothing is left of a list that is as long as its front
pub nil_at_end : (xs : List ℕ) → length xs ≡ 0 → xs ≡ []
nil_at_end xs h = nil_from_length xs h

pub cons_first : (xs : List ℕ) → 1 ≤ length xs → xs ≡ at xs 0 ∷ drop 1 xs
cons_first [] h = absurd (omega arith)
cons_first (x ∷ xs) h = refl
