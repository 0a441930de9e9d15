-- Two changes of codes, one after the other, as one change of a list of codes.
use Rattle.std.specs.Prelude.{ℕ, ◌==◌, List, [], ◌∷◌, Option, Some, None}
use Rattle.path_code.specs.declared.moves.Recode.{Recode}
use Rattle.path_code.specs.Sums.{unless, Sum}
use Rattle.code_changes.specs.Changes.{applied, list_after, Fits}

-- what becomes of what became of a code
unfoldable pub applied_next : Sum → Option ℕ → Option ℕ
applied_next next None = None
applied_next next (Some code) = applied next code

-- what becomes of a code under both in turn
unfoldable pub applied_both : Sum → Sum → ℕ → Option ℕ
applied_both s next code = applied_next next (applied s code)

unfoldable pub pair_if : ℕ → Option ℕ → List Recode → List Recode
pair_if code None moved = moved
pair_if code (Some new) moved = unless (code == new) (record { old = code; new = new }) moved

-- the pairs of codes of a list and what becomes of them that differ
unfoldable pub moved_by : (ℕ → Option ℕ) → List ℕ → List Recode
moved_by becomes [] = []
moved_by becomes (code ∷ codes) = pair_if code (becomes code) (moved_by becomes codes)

unfoldable pub lost_if : ℕ → Option ℕ → List ℕ → List ℕ
lost_if code None dropped = code ∷ dropped
lost_if code (Some new) dropped = dropped

-- the codes of a list of which nothing becomes
unfoldable pub dropped_by : (ℕ → Option ℕ) → List ℕ → List ℕ
dropped_by becomes [] = []
dropped_by becomes (code ∷ codes) = lost_if code (becomes code) (dropped_by becomes codes)

-- both as one change of a list of codes: its pairs that differ under both, its codes that are lost, and the later one's added codes
-- with its images of the earlier one's
unfoldable pub both_on : Sum → Sum → List ℕ → Sum
both_on s next codes = record { moved = moved_by (applied_both s next) codes; dropped = dropped_by (applied_both s next) codes; added = list_after next s.added }

-- one change fits a list, and the next fits the list after it
pub record FitsInTurn (s next : Sum) (codes : List ℕ) : Type 0 where
  pub earlier : Fits s codes
  pub later : Fits next (list_after s codes)
