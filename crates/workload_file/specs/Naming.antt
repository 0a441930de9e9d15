-- Names and the tables that were declared by them, numbered from 0 in the order of their declaration.
use Rattle.std.specs.Prelude.{◌≡◌, ℕ, ◌≤◌, Bool, true, false, ◌||◌, nat_eq, nat_le, nat_lt, List, [], ◌∷◌, ◌++◌, length, map, get_or, Option, Some, None, Result, Ok, Err}
use Rattle.std.specs.List.{list_any, position}
use Rattle.std.specs.Option.{option_map}
use Rattle.std.specs.Cmp.Lexicographic.{pointwise}
use Rattle.std.specs.Global.{Vec}
use Rattle.mope_base.specs.declared.numbers.ColNo.{ColNo}
use Rattle.mope_base.specs.declared.numbers.TableNo.{TableNo}
use Rattle.sql_text.specs.declared.Name.{Name}
use Rattle.workload.specs.declared.script.Decl.{Decl}
use Rattle.workload_file.specs.declared.stops.FileReason.{FileReason}
use Rattle.workload_file.specs.declared.stops.FileReason.TheVariants as reason

-- names are compared byte for byte
abbrev pub is_same : Name → Name → Bool
is_same name other = pointwise nat_eq name.bytes other.bytes

-- a name is one of these
abbrev pub stands_in : Name → List Name → Bool
stands_in name names = list_any (is_same name) names

-- its number
abbrev pub place_of : Name → List Name → Option ℕ
place_of name names = position (is_same name) names

-- these names with a new one behind them, and none where it is one of them
unfoldable pub with_new : Bool → List Name → Name → Option (List Name)
with_new true names name = None
with_new false names name = Some (names ++ name ∷ [])

unfoldable pub then_told : Bool → Option (List Name) → Option (List Name)
then_told true later = None
then_told false later = later

-- names that are declared one after another, with those declared before; none where one was declared before
unfoldable pub told_after : List Name → List Name → Option (List Name)
told_after before [] = Some before
told_after before (name ∷ names) = then_told (stands_in name before) (told_after (before ++ name ∷ []) names)

-- the names, where none stands twice
unfoldable pub told_apart : List Name → Option (List Name)
told_apart names = told_after [] names

-- the names of the tables
abbrev pub names_of : List Decl → List Name
names_of tables = map (λ (d : Decl). d.name) tables

-- the columns of the tables
abbrev pub all_columns : List Decl → List (List Name)
all_columns tables = map (λ (d : Decl). d.columns) tables

-- the number of a table
abbrev pub table_of : List Decl → Name → Option TableNo
table_of tables name = option_map (λ number. record { 0 = number }) (place_of name (names_of tables))

-- the columns of a table
abbrev pub columns_of : List Decl → TableNo → List Name
columns_of tables t = get_or (all_columns tables) t.0 []

-- the number of a column
abbrev pub column_of : List Name → Name → Option ColNo
column_of columns name = option_map (λ number. record { 0 = number }) (place_of name columns)

-- one more table would be the 17th, or it has a ninth column
unfoldable pub has_too_many : ℕ → ℕ → Bool
has_too_many tables columns = nat_le 16 tables || nat_lt 8 columns

-- the tables with one more, unless its name was declared before
unfoldable pub with_table : Bool → List Decl → Name → List Name → Result (List Decl) FileReason
with_table true tables name columns = Err reason.RepeatedName
with_table false tables name columns = Ok (tables ++ record { name = name; columns = columns } ∷ [])

unfoldable pub declared_as : Option (List Name) → List Decl → Name → List Name → Result (List Decl) FileReason
declared_as None tables name columns = Err reason.RepeatedName
declared_as (Some told) tables name columns = with_table (stands_in name (names_of tables)) tables name columns

unfoldable pub declared_unless : Bool → List Decl → Name → List Name → Result (List Decl) FileReason
declared_unless true tables name columns = Err reason.TooMany
declared_unless false tables name columns = declared_as (told_apart columns) tables name columns

-- what a declaration makes of the tables
unfoldable pub declared : List Decl → Name → List Name → Result (List Decl) FileReason
declared tables name columns = declared_unless (has_too_many (length tables) (length columns)) tables name columns

-- the names of the keys that a table of names keeps
unfoldable pub names_of_keys : List (Vec ℕ) → List Name
names_of_keys keys = map (λ (key : Vec ℕ). record { bytes = key.items }) keys

-- the tables' names and columns are numbered as they were declared
pub record AreNumbered (decls : List Decl) (names : List Name) (columns : List (List Name)) : Type 0 where
  pub tables_named : names ≡ names_of decls
  pub columns_named : columns ≡ all_columns decls
  pub few : length decls ≤ 16
