-- Changes in their normal form: what is true of each change that operations make, and of each composition of such changes.
use Rattle.std.specs.Prelude.{◌≡◌, ◌≢◌, ℕ, false, List, [], ◌∷◌, map}
use Rattle.tree_model.specs.Places.{holds}
use Rattle.path_code.specs.declared.moves.Recode.{Recode}
use Rattle.path_code.specs.Sums.{Sum}
use Rattle.path_code.specs.SumLaws.{Increase}
use Rattle.code_changes.specs.Changes.{IsIn}

-- the old codes of pairs
unfoldable pub olds : List Recode → List ℕ
olds moved = map (λ pair. pair.old) moved

-- and their new codes
unfoldable pub news : List Recode → List ℕ
news moved = map (λ pair. pair.new) moved

-- no pair has one code twice
unfoldable pub Differ : List Recode → Type 0
Differ [] = Unit {0}
Differ (pair ∷ moved) = (pair.old ≢ pair.new) × Differ moved

-- each list increases, the pairs by their old codes and by their new ones; no dropped code is the old code of a pair; and each pair
-- has two codes
pub record IsNormal (s : Sum) : Type 0 where
  pub increase : Increase s
  pub apart : (code : ℕ) → IsIn code s.dropped → holds code (olds s.moved) ≡ false
  pub differ : Differ s.moved
