-- The list under a root.
use Rattle.std.specs.Prelude.{ℕ, List, [], Option, Some, None}

-- its items, and none where there is no root
abbrev pub rooted : {A : Type 0} → Option (ℕ × List A) → List A
rooted None = []
rooted (Some page) = page.1
