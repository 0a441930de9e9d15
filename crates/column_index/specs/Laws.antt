-- The index as a function of the rows: the statements of the laws that this crate's functions without a body prove.
use Rattle.std.specs.Prelude.{◌≡◌, ℕ, false, List, [], ◌∷◌, ◌++◌, map}
use Rattle.tree_model.specs.Places.{IsIncreasing}
use Rattle.code_changes.specs.Changes.{IsIn}
use Rattle.column_index.specs.declared.entry.Entry.{Entry}
use Rattle.column_index.specs.Entries.{holds_entry, put, without, sorted, codes_in}
use Rattle.column_index.specs.Recoding.{recoded, KeepsOrder}

-- the order in which two entries are put makes no difference
abbrev pub PutsCommute : Type 0
PutsCommute = (e x : Entry) (entries : List Entry) → put e (put x entries) ≡ put x (put e entries)

-- the index of no rows is empty, and one row more at the end is one entry put
pub record RowAdded (e : Entry) (entries : List Entry) : Type 0 where
  pub none : sorted [] ≡ []
  pub one : sorted (entries ++ e ∷ []) ≡ put e (sorted entries)

abbrev pub SortsOneMore : Type 0
SortsOneMore = (e : Entry) (entries : List Entry) → RowAdded e entries

-- one row fewer is its entry taken out, where no other row has that entry
abbrev pub SortsOneFewer : Type 0
SortsOneFewer = (e : Entry) (before after : List Entry) → holds_entry e (before ++ after) ≡ false → without e (sorted (before ++ e ∷ after)) ≡ sorted (before ++ after)

-- codes that become others in the same order: the index becomes that of the rows with those codes
abbrev pub SortsRecoded : Type 0
SortsRecoded = (to : ℕ → ℕ) (entries : List Entry) → KeepsOrder to (codes_in entries) → map (recoded to) (sorted entries) ≡ sorted (map (recoded to) entries)

-- an index has the entries of its rows and no others
abbrev pub SortedHolds : Type 0
SortedHolds = (e : Entry) (entries : List Entry) → holds_entry e (sorted entries) ≡ holds_entry e entries

-- what takes an increasing list to an increasing one keeps the order of any codes among the list
abbrev pub OrderKept : Type 0
OrderKept = (to : ℕ → ℕ) (codes all : List ℕ) → IsIncreasing all → IsIncreasing (map to all) → ((code : ℕ) → IsIn code codes → IsIn code all) → KeepsOrder to codes
