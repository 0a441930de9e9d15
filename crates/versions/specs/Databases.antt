-- What contracts see of a version: the tables of a database at one number, by rank, and when each was last changed.
use Rattle.std.specs.Prelude.{◌≡◌, ℕ, ◌≤◌, ◌^◌, Bool, false, List, length, map, get_or, refl}
use Rattle.std.specs.List.{range_with_len}
use Rattle.std.specs.Coded.{Coded, code_by, coded×, coded_ℕ, coded_bool, coded_list}
use Rattle.mope_base.specs.declared.body.Body.{Body}
use Rattle.mope_base.specs.Lists.{Each}
use Rattle.table_model.specs.Stores.{Shelf, empty_shelf}
use Rattle.table_model.specs.ShelfSoundness.{AllSoundShelves}
use Rattle.table_model.specs.Operations.{shelf_at}
use Rattle.enc_table.specs.declared.stamps.Stamps.{Stamps}
use Rattle.enc_table.specs.Seen.{Seen, IsTable, no_stamps, shelf_code, stamps_code}

-- its number; the mode and the limit of rows of its tables; and for each table its shelf, and when it was last written and laid
pub record Database : Type 0 where
  pub number : ℕ
  pub same_time : Bool
  pub limit : ℕ
  pub shelves : List (Shelf Body)
  pub stamps : List Stamps

-- the database before any turn: empty tables of so many columns each
unfoldable pub first_database : List ℕ → Bool → ℕ → Database
first_database columns same_time limit = record {
  number = 0;
  same_time = same_time;
  limit = limit;
  shelves = map (empty_shelf Body) columns;
  stamps = map (λ (_ : ℕ). no_stamps) columns;
}

unfoldable pub stamps_at : List Stamps → ℕ → Stamps
stamps_at stamps table = get_or stamps table no_stamps

-- one of its tables
unfoldable pub table_at : Database → ℕ → Seen
table_at d table = record { shelf = shelf_at d.shelves table; same_time = d.same_time; limit = d.limit; stamps = stamps_at d.stamps table; spent = false }

-- all of them in order
unfoldable pub tables_in : Database → List Seen
tables_in d = map (table_at d) (range_with_len 0 (length d.shelves))

-- ---- of tables

-- a table of this mode and limit that isn't spent
pub record IsMember (same_time : Bool) (limit : ℕ) (t : Seen) : Type 0 where
  pub mode : t.same_time ≡ same_time
  pub rows : t.limit ≡ limit
  pub fresh : t.spent ≡ false
  pub table : IsTable t

-- these tables at a number
abbrev pub database_of : ℕ → Bool → ℕ → List Seen → Database
database_of number same_time limit tables = record {
  number = number;
  same_time = same_time;
  limit = limit;
  shelves = map (λ (t : Seen). t.shelf) tables;
  stamps = map (λ (t : Seen). t.stamps) tables;
}

-- a table by rank has 1 to 8 columns, and its next row number is at most 2^63
pub record IsSmall (s : Shelf Body) : Type 0 where
  pub some : 1 ≤ length s.columns
  pub narrow : length s.columns ≤ 8
  pub numbers : s.next ≤ 2 ^ 63

-- what is true of every version: at most 16 tables, each sound, each with stamps
pub record IsDatabase (d : Database) : Type 0 where
  pub few : length d.shelves ≤ 16
  pub stamped : length d.stamps ≡ length d.shelves
  pub low : d.limit ≤ 1048576
  pub sound : AllSoundShelves d.same_time d.limit d.shelves
  pub small : Each IsSmall d.shelves

-- ---- the code of what is seen, by which proofs tell two versions apart

abbrev pub database_code : Coded Database
database_code = code_by (ℕ × (Bool × (ℕ × (List (Shelf Body) × List Stamps)))) (coded× coded_ℕ (coded× coded_bool (coded× coded_ℕ (coded× (coded_list shelf_code) (coded_list stamps_code))))) (λ d. (d.number, (d.same_time, (d.limit, (d.shelves, d.stamps))))) (λ p. record { number = p.0; same_time = p.1.0; limit = p.1.1.0; shelves = p.1.1.1.0; stamps = p.1.1.1.1 }) (λ _. refl)
