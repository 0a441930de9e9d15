-- Which numbers a pass and those that were joined into it have.
use Rattle.std.specs.Prelude.{ℕ, ◌≡◌, ◌<◌, ◌≤◌, ◌⊎◌, List}
use Rattle.turn_book.specs.declared.view.View.{View}
use Rattle.turn_book.specs.Accounts.{HasNumber}

-- each number from `from` up to, and without, `to` is the pass's own or of a pass that was joined into it
abbrev pub Covers : {A : Type 0} → ℕ → List (ℕ × A) → ℕ → ℕ → Type 0
Covers own ended from to = (n : ℕ) → from ≤ n → n < to → (n ≡ own) ⊎ HasNumber n ended

-- but for the numbers that it gave to others, the pass knows what it knew
abbrev pub StaysRoot : {I O : Type 0} → View I O → View I O → Type 0
StaysRoot v w = (w.number ≡ v.number) × (w.ended ≡ v.ended) × (w.stock_to ≡ v.stock_to)
