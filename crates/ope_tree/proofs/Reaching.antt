-- How far down the arena a link may lead: a measure for the walks down.
use Rattle.std.specs.Prelude.{ℕ, suc, Option, Some, None}

-- a number above that of the link's node
abbrev pub reach : Option ℕ → ℕ
reach None = 0
reach (Some at) = suc at
