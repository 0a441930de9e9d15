-- What becomes of a code where a subtree gets another root.
use Rattle.std.specs.Prelude.{◌≡◌, ℕ, ◌<◌, ◌≤◌, List, ◌++◌, length}
use Rattle.tree_model.specs.declared.Side.{Side}
use Rattle.path_code.specs.Codes.{code_of}

-- the old code is that of a way that begins with `from`, and the new code that of the way that begins with `to` in its place
pub record IsMoved (from to : List Side) (old new : ℕ) : Type 0 where
  pub rest : List Side
  pub short : length (from ++ rest) ≤ 63
  pub before : old ≡ code_of (from ++ rest)
  pub still_short : length (to ++ rest) ≤ 63
  pub after : new ≡ code_of (to ++ rest)

-- each way that begins with `from` and has this code becomes too long
abbrev pub CannotMove : List Side → List Side → ℕ → Type 0
CannotMove from to old = (rest : List Side) → length (from ++ rest) ≤ 63 → old ≡ code_of (from ++ rest) → 63 < length (to ++ rest)

-- the same of ways
pub record IsReplaced (from to old new : List Side) : Type 0 where
  pub rest : List Side
  pub before : old ≡ from ++ rest
  pub after : new ≡ to ++ rest

abbrev pub CannotReplace : List Side → List Side → List Side → Type 0
CannotReplace from to old = (rest : List Side) → old ≡ from ++ rest → 63 < length (to ++ rest)
