-- What contracts see of a table: its shelf, by rank and without codes, its mode, its limit of rows, its stamps, and whether it is spent.
use Rattle.std.specs.Prelude.{◌≡◌, ℕ, ◌≤◌, ◌^◌, Bool, true, false, List, [], ◌∷◌, length, replicate, refl, ◌⊎◌}
use Rattle.std.specs.Coded.{Coded, code_by, coded×, coded_ℕ, coded_bool, coded_list}
use Rattle.mope_base.specs.declared.body.Body.{Body}
use Rattle.tree_model.specs.Columns.{Column, empty_column}
use Rattle.table_model.specs.Stores.{Kept, Shelf, empty_shelf}
use Rattle.table_model.specs.ShelfSoundness.{SoundShelf}
use Rattle.ope_tree.specs.Seen.{body_code, column_code}
use Rattle.enc_table.specs.declared.stamps.Stamps.{Stamps}

pub record Seen : Type 0 where
  pub shelf : Shelf Body
  pub same_time : Bool
  pub limit : ℕ
  pub stamps : Stamps
  pub spent : Bool

unfoldable pub no_stamps : Stamps
no_stamps = record { written = 0; laid = 0 }

-- a table of so many columns without rows, in this mode and with this limit of rows
unfoldable pub new_table : ℕ → Bool → ℕ → Seen
new_table columns same_time limit = record { shelf = empty_shelf Body columns; same_time = same_time; limit = limit; stamps = no_stamps; spent = false }

-- the table with another shelf
unfoldable pub with_shelf : Shelf Body → Seen → Seen
with_shelf shelf t = record { shelf = shelf; same_time = t.same_time; limit = t.limit; stamps = t.stamps; spent = t.spent }

-- the table with other stamps
unfoldable pub with_stamps : Stamps → Seen → Seen
with_stamps stamps t = record { shelf = t.shelf; same_time = t.same_time; limit = t.limit; stamps = stamps; spent = t.spent }

-- without rows and items: the number of columns and the next row number stay
unfoldable pub emptied : Shelf Body → Shelf Body
emptied s = record { kept = []; next = s.next; columns = replicate (length s.columns) (empty_column Body) }

-- what is left after want of memory: each later call that can answer want of memory does
unfoldable pub spent_table : Seen → Seen
spent_table t = record { shelf = emptied t.shelf; same_time = t.same_time; limit = t.limit; stamps = t.stamps; spent = true }

-- there is no room for one row more: as many rows as the limit, or no number left for the next one
abbrev pub IsFull : Seen → Type 0
IsFull t = (t.limit ≤ length t.shelf.kept) ⊎ (2 ^ 63 ≤ t.shelf.next)

-- what is true of every table: its shelf is sound, it has 1 to 8 columns, its limit of rows is at most 1,048,576, the next row number is
-- at most 2^63, and a spent one has no rows and no items
pub record IsTable (t : Seen) : Type 0 where
  pub sound : SoundShelf Body t.same_time t.limit t.shelf
  pub some : 1 ≤ length t.shelf.columns
  pub narrow : length t.shelf.columns ≤ 8
  pub low : t.limit ≤ 1048576
  pub numbers : t.shelf.next ≤ 2 ^ 63
  pub gone : t.spent ≡ true → t.shelf ≡ emptied t.shelf

-- ---- the code of what is seen, by which proofs tell two tables apart

abbrev pub kept_code : Coded (Kept Body)
kept_code = code_by (ℕ × (List Body × List ℕ)) (coded× coded_ℕ (coded× (coded_list body_code) (coded_list coded_ℕ))) (λ row. (row.number, (row.bodies, row.ranks))) (λ p. record { number = p.0; bodies = p.1.0; ranks = p.1.1 }) (λ _. refl)

abbrev pub shelf_code : Coded (Shelf Body)
shelf_code = code_by (List (Kept Body) × (ℕ × List (Column Body))) (coded× (coded_list kept_code) (coded× coded_ℕ (coded_list column_code))) (λ s. (s.kept, (s.next, s.columns))) (λ p. record { kept = p.0; next = p.1.0; columns = p.1.1 }) (λ _. refl)

abbrev pub stamps_code : Coded Stamps
stamps_code = code_by (ℕ × ℕ) (coded× coded_ℕ coded_ℕ) (λ s. (s.written, s.laid)) (λ p. record { written = p.0; laid = p.1 }) (λ _. refl)

abbrev pub seen_code : Coded Seen
seen_code = code_by (Shelf Body × (Bool × (ℕ × (Stamps × Bool)))) (coded× shelf_code (coded× coded_bool (coded× coded_ℕ (coded× stamps_code coded_bool)))) (λ t. (t.shelf, (t.same_time, (t.limit, (t.stamps, t.spent))))) (λ p. record { shelf = p.0; same_time = p.1.0; limit = p.1.1.0; stamps = p.1.1.1.0; spent = p.1.1.1.1 }) (λ _. refl)
