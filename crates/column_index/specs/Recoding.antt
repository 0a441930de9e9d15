-- Entries whose codes become others, in the same order.
use Rattle.std.specs.Prelude.{ℕ, ◌<◌, List}
use Rattle.code_changes.specs.Changes.{IsIn}
use Rattle.column_index.specs.declared.entry.Entry.{Entry}

-- an entry with what becomes of its code
unfoldable pub recoded : (ℕ → ℕ) → Entry → Entry
recoded to e = record { enc = to e.enc; row = e.row }

-- of two of these codes the smaller one becomes the smaller one
abbrev pub KeepsOrder : (ℕ → ℕ) → List ℕ → Type 0
KeepsOrder to codes = (code other : ℕ) → IsIn code codes → IsIn other codes → code < other → to code < to other
