-- Which tables were changed after a version.
use Rattle.std.specs.Prelude.{ℕ, suc, max, Bool, true, false, ◌&&◌, ◌||◌, eqb, ltb, List, [], ◌∷◌, Option, Some, None}
use Rattle.mope_base.specs.declared.numbers.TableNo.{TableNo}
use Rattle.enc_table.specs.declared.stamps.Stamps.{Stamps}

-- a table is among these
unfoldable pub names : List TableNo → ℕ → Bool
names [] table = false
names (t ∷ tables) table = eqb t.0 table || names tables table

-- the table with its stamp where that is so, else the other
unfoldable pub this_or : Bool → ℕ → ℕ → Option (TableNo × ℕ) → Option (TableNo × ℕ)
this_or true table stamp other = Some (record { 0 = table }, stamp)
this_or false table stamp other = other

-- the lowest table from a number on, of those touched, that was written after the base, with its stamp
unfoldable pub lowest_newer : ℕ → List Stamps → ℕ → List TableNo → Option (TableNo × ℕ)
lowest_newer table [] base touched = None
lowest_newer table (stamp ∷ stamps) base touched =
    this_or (names touched table && ltb base stamp.written) table stamp.written (lowest_newer (suc table) stamps base touched)

-- the version that last changed a table, its rows or a tree alone
unfoldable pub last_change : Stamps → ℕ
last_change stamps = max stamps.written stamps.laid
