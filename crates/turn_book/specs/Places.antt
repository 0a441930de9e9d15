-- Places in a row that hold values.
use Rattle.std.specs.Prelude.{ℕ, ◌≡◌, ◌<◌, Bool, true, false, List, slice_index_or}

-- the first n places each hold a value
abbrev pub IsFilled : List Bool → ℕ → Type 0
IsFilled filled n = (k : ℕ) → k < n → slice_index_or filled k false ≡ true
