-- Tables of the kinds of messages, and where bytes are no whole message of a table. Numbers are big-endian.
use Rattle.std.specs.Prelude.{◌≡◌, ◌≤◌, ℕ, ◌+◌, ◌-◌, ◌*◌, Bool, true, not, ◌&&◌, ◌||◌, ◌==◌, nat_lt, List, [], ◌∷◌, length, drop, slice_index, find, Option, Some, None, Result, Ok, Err, if◌then◌else◌}
use Rattle.std.specs.List.{list_any}
use Rattle.byteorder.specs.Endian.{big_number}
use Rattle.case_tables.specs.declared.rows.Kind.{Kind}
use Rattle.case_tables.specs.declared.rows.Cut.{Cut}
use Rattle.case_tables.specs.declared.rows.Cut.TheVariants.{Short, Kind as NoKind, Length}

-- a count of units has no byte, one or four
abbrev pub is_count_width : ℕ → Bool
is_count_width n = n == 0 || n == 1 || n == 4

-- either both are there or neither is
abbrev pub are_both_or_none : ℕ → ℕ → Bool
are_both_or_none m n = (m == 0 && n == 0) || (nat_lt 0 m && nat_lt 0 n)

-- messages can have the row: its head holds the byte of the kind and the count of units, and units follow exactly where there is a count of them
abbrev pub is_row : Kind → Bool
is_row kind = nat_lt kind.count kind.head && is_count_width kind.count && are_both_or_none kind.count kind.unit

-- one of the rows has this number
abbrev pub is_taken : ℕ → List Kind → Bool
is_taken number rows = list_any (λ kind. kind.number == number) rows

-- messages can have the row, and none of the others has its number
abbrev pub is_alone : Kind → List Kind → Bool
is_alone kind others = is_row kind && not (is_taken kind.number others)

-- messages can have each row, and no number stands twice
unfoldable pub are_kinds : List Kind → Bool
are_kinds [] = true
are_kinds (kind ∷ rest) = is_alone kind rest && are_kinds rest

-- the first row with this number
abbrev pub row_of : ℕ → List Kind → Option Kind
row_of number rows = find (λ kind. kind.number == number) rows

-- the count of units that the head ends with
abbrev pub unit_count : Kind → List ℕ → ℕ
unit_count kind bytes = big_number kind.count (drop (kind.head - kind.count) bytes)

-- the length of the message whose head the bytes begin with
abbrev pub whole_length : Kind → List ℕ → ℕ
whole_length kind bytes = kind.head + unit_count kind bytes * kind.unit

abbrev pub cut_at : ℕ → Kind → List ℕ → Result Kind Cut
cut_at whole kind bytes = if nat_lt (length bytes) whole then Err (Short (length bytes)) else if nat_lt whole (length bytes) then Err (Length whole) else Ok kind

-- whether the bytes are as many as a message of the kind has: fewer than the head or the whole, or more
unfoldable pub cut_within : Kind → List ℕ → Result Kind Cut
cut_within kind bytes = if nat_lt (length bytes) kind.head then Err (Short (length bytes)) else cut_at (whole_length kind bytes) kind bytes

unfoldable pub cut_by : Option Kind → List ℕ → Result Kind Cut
cut_by None bytes = Err (NoKind 0)
cut_by (Some kind) bytes = cut_within kind bytes

-- the kind of the message that the bytes are by the table, or the first fault: no bytes, no such kind, bytes missing, bytes too many
unfoldable pub cut : List Kind → List ℕ → Result Kind Cut
cut rows [] = Err (Short 0)
cut rows (byte ∷ rest) = cut_by (row_of byte rows) (byte ∷ rest)

-- the bytes are a whole message of this row: it has their first byte, and they are as many as their head says
pub record IsMessage (rows : List Kind) (kind : Kind) (bytes : List ℕ) : Type 0 where
  pub found : row_of (slice_index bytes 0) rows ≡ Some kind
  pub headed : kind.head ≤ length bytes
  pub whole : length bytes ≡ whole_length kind bytes
