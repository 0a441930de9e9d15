-- How many rows have each of some increasing keys. A key is what a row has of a column: its value, or the code of its item.
use Rattle.std.specs.Prelude.{◌≡◌, ℕ, suc, zero, ◌-◌, true, ◌==◌, List, [], ◌∷◌, map}
use Rattle.tree_model.specs.Places.{one_if, holds, IsIncreasing}
use Rattle.tree_model.specs.Items.{Item, values, change_at}

-- how often a key stands among the rows
unfoldable pub tally : List ℕ → ℕ → ℕ
tally [] key = 0
tally (row ∷ rows) key = one_if (row == key) (tally rows key)

-- the keys increase, each row has one of them, and beside them stands how many rows have each
pub record Tallied (keys counts rows : List ℕ) : Type 0 where
  pub rise : IsIncreasing keys
  pub held : (key : ℕ) → holds key rows ≡ true → holds key keys ≡ true
  pub counted : counts ≡ map (tally rows) keys

-- the later rows are the earlier ones and one more with this key, in any order
unfoldable pub IsOneMore : ℕ → List ℕ → List ℕ → Type 0
IsOneMore key earlier later = (other : ℕ) → tally later other ≡ one_if (key == other) (tally earlier other)

-- the counts with that of a rank one higher, and one lower
unfoldable pub raised : List ℕ → ℕ → List ℕ
raised counts rank = change_at (λ count. suc count) counts rank

unfoldable pub lowered : List ℕ → ℕ → List ℕ
lowered counts rank = change_at (λ count. count - 1) counts rank

-- of a list beside counts the elements with a count above 0
unfoldable pub with_rows : {A : Type 0} → List ℕ → List A → List A
with_rows [] xs = []
with_rows (count ∷ counts) [] = []
with_rows (zero ∷ counts) (x ∷ xs) = with_rows counts xs
with_rows (suc count ∷ counts) (x ∷ xs) = x ∷ with_rows counts xs

-- how many rows have each of the items
unfoldable pub counts : {B : Type 0} → List (Item B) → List ℕ
counts items = map (λ item. item.count) items

-- the values of the items are the keys of the rows, and each item's count is how many rows have it
abbrev pub TalliedItems : {B : Type 0} → (B → ℕ) → List (Item B) → List ℕ → Type 0
TalliedItems v items rows = Tallied (values v items) (counts items) rows
