-- A list of entries of which those before a place have been given their new codes.
use Rattle.std.specs.Prelude.{◌≡◌, ℕ, ◌≤◌, List, [], ◌∷◌, ◌++◌, map, take, drop, length}
use Rattle.std.specs.List.{AllWithin}
use Rattle.tree_model.specs.Places.{below}
use Rattle.path_code.specs.declared.moves.Recode.{Recode}
use Rattle.code_changes.specs.Changes.{new_code}
use Rattle.column_index.specs.declared.entry.Entry.{Entry}
use Rattle.column_index.specs.Entries.{codes_in}
use Rattle.column_index.specs.Recoding.{recoded}

abbrev pub IsFrontRecoded : (ℕ → ℕ) → List Entry → ℕ → List Entry → Type 0
IsFrontRecoded to earlier place now = now ≡ map (recoded to) (take place earlier) ++ drop place earlier

-- the entries from `start` to a place, all with the code `old`, have got the code `new`
pub record IsMoving (old new : ℕ) (earlier first : List Entry) (start place : ℕ) (now : List Entry) : Type 0 where
  pub many : length now ≡ length earlier
  pub same : AllWithin (λ e. e.enc ≡ old) earlier start place
  pub front : (to : ℕ → ℕ) → to old ≡ new → IsFrontRecoded to earlier start first → IsFrontRecoded to earlier place now

-- the entries of each of these pairs begin at this place or later
unfoldable pub BeginFrom : ℕ → List ℕ → List Recode → Type 0
BeginFrom place codes [] = Unit {0}
BeginFrom place codes (pair ∷ moved) = (place ≤ below pair.old codes) × BeginFrom place codes moved

-- the entries before a place have got their new codes, of which so many pairs tell, and the other pairs tell of those from there on
pub record AreMoved (moved : List Recode) (count : ℕ) (earlier : List Entry) (place : ℕ) (now : List Entry) : Type 0 where
  pub many : length now ≡ length earlier
  pub within : place ≤ length earlier
  pub front : IsFrontRecoded (new_code moved) earlier place now
  pub ahead : BeginFrom place (codes_in earlier) (drop count moved)
  pub rest : AllWithin (λ e. new_code moved e.enc ≡ new_code (drop count moved) e.enc) earlier place (length earlier)
