-- The rules of the fields: when a value is wrong, and which messages some bytes give.
use Rattle.std.specs.Prelude.{ℕ, ◌^◌, ◌%◌, Bool, true, not, ◌&&◌, ◌||◌, ◌==◌, nat_lt, nat_le, is_some, IsTrue, if◌then◌else◌, List, [], ◌∷◌, length}
use Rattle.walk_proto.specs.Spelling.{flag, how_byte}
use Rattle.walk_proto.specs.declared.messages.Asked.{Asked}
use Rattle.walk_proto.specs.declared.messages.Reply.{Reply}
use Rattle.walk_proto.specs.declared.messages.Reply.TheVariants.{Node, Placed, Rows, Count, Ended, No}
use Rattle.walk_proto.specs.declared.messages.Request.{Request}
use Rattle.walk_proto.specs.declared.messages.Request.TheVariants.{Begin, WalkStart, Go, Found, Insert, Query, End, Rebuild}

-- a flag or a side
abbrev pub is_wrong_bit : ℕ → Bool
is_wrong_bit n = nat_lt 1 n

-- a count of bodies or of columns that may not be 0
abbrev pub is_wrong_width : ℕ → Bool
is_wrong_width n = n == 0 || nat_lt 8 n

-- only verbs 2 and 3 have a target
abbrev pub is_wrong_target : ℕ → ℕ → Bool
is_wrong_target verb target = not (target == 0) && not (verb == 2 || verb == 3)

-- only verb 0 has an order
abbrev pub is_wrong_order : ℕ → ℕ → Bool
is_wrong_order verb order = nat_lt 2 order || (not (order == 0) && not (verb == 0))

abbrev pub is_wrong_order_column : ℕ → ℕ → Bool
is_wrong_order_column order column = not (column == 0) && order == 0

-- only verb 0 has a limit
abbrev pub is_wrong_limited : ℕ → ℕ → Bool
is_wrong_limited verb limited = nat_lt 1 limited || (not (limited == 0) && not (verb == 0))

abbrev pub is_wrong_limit : ℕ → ℕ → Bool
is_wrong_limit limited limit = not (limit == 0) && limited == 0

-- verb 0 gives columns, and no other verb does
abbrev pub is_wrong_query_width : ℕ → ℕ → Bool
is_wrong_query_width verb width = if verb == 0 then is_wrong_width width else not (width == 0)

-- past the width each column is 0
abbrev pub is_wrong_column : ℕ → ℕ → ℕ → Bool
is_wrong_column width place column = nat_le width place && not (column == 0)

abbrev pub is_wrong_op : ℕ → Bool
is_wrong_op op = nat_lt 5 op

-- only Conflict and Stale have a table
abbrev pub is_wrong_ended_table : ℕ → ℕ → Bool
is_wrong_ended_table how table = not (table == 0) && not (how == 3 || how == 5)

-- codes 1 to 7 have no value
abbrev pub is_wrong_no_value : ℕ → ℕ → Bool
is_wrong_no_value code value = not (value == 0) && (nat_le 1 code && nat_le code 7)

-- a count of bodies of which so many make a row
abbrev pub is_wrong_rows_count : ℕ → ℕ → Bool
is_wrong_rows_count width count = not (count % width == 0)

unfoldable pub are_ops : List (ℕ × ℕ) → Bool
are_ops [] = true
are_ops (cond ∷ rest) = not (is_wrong_op cond.1) && are_ops rest

unfoldable pub is_asked : Asked → Bool
is_asked a = not (nat_lt 4 a.verb) && not (is_wrong_target a.verb a.target) && not (is_wrong_order a.verb a.order) && not (is_wrong_order_column a.order a.order_column) && not (is_wrong_limited a.verb (flag (is_some a.limit))) && not (is_wrong_query_width a.verb (length a.columns)) && not (nat_lt 8 (length a.conds)) && are_ops a.conds

-- some bytes give the request
abbrev pub IsRequest : Request → Type 0
IsRequest Begin = Unit {0}
IsRequest (WalkStart table column) = Unit {0}
IsRequest (Go side) = Unit {0}
IsRequest Found = Unit {0}
IsRequest (Insert table bodies) = IsTrue (not (is_wrong_width (length bodies)))
IsRequest (Query asked) = IsTrue (is_asked asked)
IsRequest (End commit) = Unit {0}
IsRequest (Rebuild table column) = Unit {0}

unfoldable pub is_rows : ℕ → ℕ → Bool
is_rows width count = not (is_wrong_width width) && not (is_wrong_rows_count width count) && nat_lt count (2 ^ 32)

unfoldable pub is_ended : ℕ → ℕ → Bool
is_ended how table = not (is_wrong_ended_table how table)

unfoldable pub is_no : ℕ → ℕ → Bool
is_no code value = not (nat_lt 11 code) && not (is_wrong_no_value code value)

-- some bytes give the reply
abbrev pub IsReply : Reply → Type 0
IsReply (Node body) = Unit {0}
IsReply Placed = Unit {0}
IsReply (Rows width bodies) = IsTrue (is_rows width (length bodies))
IsReply (Count number) = Unit {0}
IsReply (Ended how table number) = IsTrue (is_ended (how_byte how) table)
IsReply (No code value) = IsTrue (is_no code value)
