-- A pass and a book, as contracts see them.
use Rattle.std.specs.Prelude.{ℕ, ◌≡◌, ◌<◌, ◌≤◌, ◌⊎◌, Bool, true, false, List, [], ◌∷◌, Option, None}
use Rattle.atomic_table.specs.Table.{Me}
use Rattle.turn_book.specs.declared.pass.Book.{Book}
use Rattle.turn_book.specs.declared.pass.Pass.{Pass}
use Rattle.turn_book.specs.declared.view.View.{View}
use Rattle.turn_book.specs.declared.view.Stage.{Stage}
use Rattle.turn_book.specs.declared.view.Stage.TheVariants.{Idle, Waits, Turn, Spent}
use Rattle.turn_book.specs.Accounts.{HasNumber}

module _ {I : Type 0} where
  abbrev pub has_turn : Stage I → Bool
  has_turn Idle = false
  has_turn (Waits t) = false
  has_turn (Turn t now) = true
  has_turn Spent = false

module _ {T I : Type 0} where
  -- between two calls a pass is idle, or has seen the history, and the value's place is empty
  abbrev pub Rests : Stage I → List I → List (ℕ × Option T) → Type 0
  Rests Idle seen out = out ≡ []
  Rests (Waits t) seen out = ⊥
  Rests (Turn t now) seen out = (now ≡ seen) × (out ≡ (0, None) ∷ [])
  Rests Spent seen out = ⊥

module _ {T I O : Type 0} where
  abbrev pub AtRest : Me (Option T) (View I O) → Type 0
  AtRest me = Rests me.0.stage me.0.seen me.1

module _ {I O : Type 0} where
  -- Each number below `passes` is the pass's own, or of a pass that was joined into it, or was never given out
  abbrev pub HasAll : ℕ → View I O → Type 0
  HasAll passes v = (n : ℕ) → n < passes → (n ≡ v.number) ⊎ HasNumber n v.ended ⊎ ((v.stock_from ≤ n) × (n < v.stock_to))

  -- nothing but the history that was seen, and the own items, may have changed
  abbrev pub IsSamePass : View I O → View I O → Type 0
  IsSamePass v w = (w.number ≡ v.number) × (w.origin ≡ v.origin) × (w.ended ≡ v.ended) × (w.stock_from ≡ v.stock_from) × (w.stock_to ≡ v.stock_to)

module _ {T I O : Type 0} where
  -- how many passes the book may have
  abbrev pub passes_in : Book T I O → ℕ
  passes_in b = b.table.shared.key.passes

  -- what the pass knows
  abbrev pub known_by : Pass T I O → View I O
  known_by p = p.seat.me.0

  -- the value is out with this pass
  abbrev pub holds_value : Pass T I O → Bool
  holds_value p = has_turn p.seat.me.0.stage

  -- the pass is one of this book
  abbrev pub IsPassOf : Book T I O → Pass T I O → Type 0
  IsPassOf b p = (p.seat.table_id ≡ b.table.shared.table_id) × AtRest p.seat.me
