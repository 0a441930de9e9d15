-- The fourteen kinds of messages: number, head, bytes of the count, bytes of a unit.
use Rattle.std.specs.Prelude.{ℕ, List, [], ◌∷◌, ◌++◌}
use Rattle.case_tables.specs.declared.rows.Kind.{Kind}

abbrev pub row : ℕ → ℕ → ℕ → ℕ → Kind
row number head count unit = record { number = number; head = head; count = count; unit = unit }

-- Begin, WalkStart, Go, Found, Insert, Query, End and Rebuild
unfoldable pub request_kinds : List Kind
request_kinds = row 1 1 0 0 ∷ row 2 3 0 0 ∷ row 3 2 0 0 ∷ row 4 1 0 0 ∷ row 5 3 1 16 ∷ row 6 25 1 2 ∷ row 7 2 0 0 ∷ row 8 3 0 0 ∷ []

-- Node, Placed, Rows, Count, Ended and No
unfoldable pub reply_kinds : List Kind
reply_kinds = row 9 17 0 0 ∷ row 10 1 0 0 ∷ row 11 6 4 16 ∷ row 12 9 0 0 ∷ row 13 11 0 0 ∷ row 14 6 0 0 ∷ []

unfoldable pub all_kinds : List Kind
all_kinds = request_kinds ++ reply_kinds
