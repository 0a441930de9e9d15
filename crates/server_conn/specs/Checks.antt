-- When a request is refused: the first check that fails, in the order of a list. The definition is our own.
use Rattle.std.specs.Prelude.{ℕ, ◌^◌, Bool, true, false, not, ◌&&◌, ◌||◌, ◌==◌, leb, List, [], ◌∷◌, ◌++◌, map, length, is_some, Option, Some, None}
use Rattle.std.specs.List.{range_with_len}
use Rattle.mope_base.specs.declared.numbers.TableNo.{TableNo}
use Rattle.mope_base.specs.declared.body.Body.{Body}
use Rattle.table_model.specs.Stores.{Shelf}
use Rattle.table_model.specs.Operations.{shelf_at}
use Rattle.walk_proto.specs.declared.messages.Asked.{Asked}
use Rattle.walk_proto.specs.declared.messages.Request.{Request}
use Rattle.walk_proto.specs.declared.messages.Request.TheVariants as request
use Rattle.server_conn.specs.Connections.{Mark, Held}

-- ---- the reasons of a refusal, as numbers

abbrev pub full : ℕ
full = 0

abbrev pub no_transaction : ℕ
no_transaction = 1

abbrev pub in_transaction : ℕ
in_transaction = 2

abbrev pub walk_open : ℕ
walk_open = 3

abbrev pub no_walk : ℕ
no_walk = 4

abbrev pub unknown_table : ℕ
unknown_table = 5

abbrev pub unknown_column : ℕ
unknown_column = 6

abbrev pub wrong_places : ℕ
wrong_places = 7

unfoldable pub reason_or : Bool → ℕ → Option ℕ → Option ℕ
reason_or true reason other = Some reason
reason_or false reason other = other

-- of checks, each told by whether it fails and its reason, the first that fails
unfoldable pub first_failing : List (Bool × ℕ) → Option ℕ
first_failing [] = None
first_failing (check ∷ checks) = reason_or check.0 check.1 (first_failing checks)

-- ---- what is looked at

-- how many places a transaction keeps at most
abbrev pub most_marks : ℕ
most_marks = 16

-- the transaction's own table
unfoldable pub own : Held → TableNo → Shelf Body
own h t = shelf_at h.shelves t.0

unfoldable pub lacks_table : Held → TableNo → Bool
lacks_table h t = leb (length h.shelves) t.0

-- a number is none of a column of the table
unfoldable pub lacks_column : Held → TableNo → ℕ → Bool
lacks_column h t column = leb (length (own h t).columns) column

unfoldable pub lacks_one : Held → TableNo → List ℕ → Bool
lacks_one h t [] = false
lacks_one h t (column ∷ columns) = lacks_column h t column || lacks_one h t columns

-- the places are of these columns of a table, in this order
unfoldable pub are_of : ℕ → List ℕ → List Mark → Bool
are_of table [] [] = true
are_of table [] (mark ∷ marks) = false
are_of table (column ∷ columns) [] = false
are_of table (column ∷ columns) (mark ∷ marks) = (mark.table == table) && (mark.column == column) && are_of table columns marks

-- one place for each column of the table, and as many bodies
unfoldable pub fits_row : Held → TableNo → List Body → Bool
fits_row h t bodies = are_of t.0 (range_with_len 0 (length (own h t).columns)) h.marks && (length bodies == length (own h t).columns)

-- no row more has room in the table: as many rows as its limit, or no number for the next one
unfoldable pub is_full : Held → TableNo → Bool
is_full h t = leb h.base.limit (length (own h t).kept) || leb (2 ^ 63) (own h t).next

unfoldable pub once_or_twice : Bool → ℕ → List ℕ → List ℕ
once_or_twice true column columns = column ∷ column ∷ columns
once_or_twice false column columns = column ∷ columns

-- the columns of the constants of conditions: that of BETWEEN, the number 5, twice
unfoldable pub constants_of : List (ℕ × ℕ) → List ℕ
constants_of [] = []
constants_of (cond ∷ conds) = once_or_twice (cond.1 == 5) cond.0 (constants_of conds)

unfoldable pub alone_if : Bool → ℕ → List ℕ
alone_if true column = column ∷ []
alone_if false column = []

-- the columns that a selection names: of its conditions; of the least or greatest body; of the order; and those that it gives
unfoldable pub columns_named : Asked → List ℕ
columns_named a = map (λ (cond : ℕ × ℕ). cond.0) a.conds ++ alone_if ((a.verb == 2) || (a.verb == 3)) a.target ++ alone_if (not (a.order == 0)) a.order_column ++ a.columns

-- nothing was done yet: no place, no operation, and no table touched
unfoldable pub is_fresh : {A B C : Type 0} → List A → List B → List C → Bool
is_fresh [] [] [] = true
is_fresh [] [] (z ∷ zs) = false
is_fresh [] (y ∷ ys) zs = false
is_fresh (x ∷ xs) ys zs = false

-- ---- the checks of each request to a connection that has a transaction, in their order

unfoldable pub checks : Request → Held → List (Bool × ℕ)
checks request.Begin h = (true, in_transaction) ∷ []
checks (request.WalkStart t column) h = (is_some h.walk, walk_open) ∷ (lacks_table h t, unknown_table) ∷ (lacks_column h t column.0, unknown_column) ∷ (leb most_marks (length h.marks), wrong_places) ∷ []
checks (request.Go side) h = (not (is_some h.walk), no_walk) ∷ []
checks request.Found h = (not (is_some h.walk), no_walk) ∷ []
checks (request.Insert t bodies) h = (is_some h.walk, walk_open) ∷ (lacks_table h t, unknown_table) ∷ (not (fits_row h t bodies), wrong_places) ∷ (is_full h t, full) ∷ []
checks (request.Query a) h = (is_some h.walk, walk_open) ∷ (lacks_table h a.table, unknown_table) ∷ (lacks_one h a.table (columns_named a), unknown_column) ∷ (not (are_of a.table.0 (constants_of a.conds) h.marks), wrong_places) ∷ []
checks (request.End keeps) h = (is_some h.walk, walk_open) ∷ []
checks (request.Rebuild t column) h = (is_some h.walk, walk_open) ∷ (lacks_table h t, unknown_table) ∷ (lacks_column h t column.0, unknown_column) ∷ (not (is_fresh h.marks h.ops h.touched), in_transaction) ∷ []

-- the reason for which a request is refused
unfoldable pub refusal : Request → Held → Option ℕ
refusal r h = first_failing (checks r h)
