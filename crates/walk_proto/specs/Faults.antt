-- The first fault of bytes that spell no message: no bytes, the kind, bytes missing, bytes too many, then the first field whose value is wrong. A field is told by the offset of its first byte.
use Rattle.std.specs.Prelude.{◌≡◌, ◌≤◌, ℕ, ◌+◌, Bool, ◌==◌, nat_lt, List, [], ◌∷◌, ◌++◌, length, take, drop, slice_index, Option, None, Some, Result, Ok, Err, if◌then◌else◌}
use Rattle.byteorder.specs.Endian.{big_number}
use Rattle.case_tables.specs.Tables.{cut}
use Rattle.case_tables.specs.declared.rows.Kind.{Kind}
use Rattle.case_tables.specs.declared.rows.Cut.{Cut}
use Rattle.case_tables.specs.declared.rows.Cut.TheVariants as cuts
use Rattle.walk_proto.specs.Kinds.{request_kinds, reply_kinds}
use Rattle.walk_proto.specs.Rules.{is_wrong_bit, is_wrong_width, is_wrong_target, is_wrong_order, is_wrong_order_column, is_wrong_limited, is_wrong_limit, is_wrong_query_width, is_wrong_column, is_wrong_op, is_wrong_ended_table, is_wrong_no_value, is_wrong_rows_count}
use Rattle.walk_proto.specs.declared.faults.WireStop.{WireStop}
use Rattle.walk_proto.specs.declared.faults.WireStop.TheVariants.{Short, Kind as NoKind, Length, Value}

-- the number that a byte is
abbrev pub at : List ℕ → ℕ → ℕ
at bytes offset = slice_index bytes offset

-- the offset of the first wrong field of a table, each entry of which is an offset and whether the field there is wrong
unfoldable pub first_wrong : List (ℕ × Bool) → Option ℕ
first_wrong [] = None
first_wrong (field ∷ rest) = if field.1 then Some field.0 else first_wrong rest

-- the columns of a Query, from a place on
unfoldable pub column_fields : ℕ → ℕ → List ℕ → List (ℕ × Bool)
column_fields width place [] = []
column_fields width place (column ∷ rest) = (16 + place, is_wrong_column width place column) ∷ column_fields width (place + 1) rest

-- the operators of a Query whose conditions begin at an offset
unfoldable pub op_fields : ℕ → List ℕ → List (ℕ × Bool)
op_fields offset [] = []
op_fields offset (column ∷ []) = []
op_fields offset (column ∷ op ∷ rest) = (offset + 1, is_wrong_op op) ∷ op_fields (offset + 2) rest

-- the fields of a Query before its columns
unfoldable pub query_head_fields : List ℕ → List (ℕ × Bool)
query_head_fields b = (2, nat_lt 4 (at b 2)) ∷ (3, is_wrong_target (at b 2) (at b 3)) ∷ (4, is_wrong_order (at b 2) (at b 4)) ∷ (5, is_wrong_order_column (at b 4) (at b 5)) ∷ (6, is_wrong_limited (at b 2) (at b 6)) ∷ (7, is_wrong_limit (at b 6) (big_number 8 (drop 7 b))) ∷ (15, is_wrong_query_width (at b 2) (at b 15)) ∷ []

unfoldable pub bit_fields : List ℕ → List (ℕ × Bool)
bit_fields b = (1, is_wrong_bit (at b 1)) ∷ []

unfoldable pub insert_fields : List ℕ → List (ℕ × Bool)
insert_fields b = (2, is_wrong_width (at b 2)) ∷ []

-- the count of its conditions, and the conditions
unfoldable pub query_cond_fields : List ℕ → List (ℕ × Bool)
query_cond_fields b = (24, nat_lt 8 (at b 24)) ∷ op_fields 25 (drop 25 b)

unfoldable pub query_column_fields : List ℕ → List (ℕ × Bool)
query_column_fields b = column_fields (at b 15) 0 (take 8 (drop 16 b))

unfoldable pub query_fields : List ℕ → List (ℕ × Bool)
query_fields b = query_head_fields b ++ (query_column_fields b ++ query_cond_fields b)

unfoldable pub rows_fields : List ℕ → List (ℕ × Bool)
rows_fields b = (1, is_wrong_width (at b 1)) ∷ (2, is_wrong_rows_count (at b 1) (big_number 4 (drop 2 b))) ∷ []

unfoldable pub ended_fields : List ℕ → List (ℕ × Bool)
ended_fields b = (1, nat_lt 5 (at b 1)) ∷ (2, is_wrong_ended_table (at b 1) (at b 2)) ∷ []

unfoldable pub no_fields : List ℕ → List (ℕ × Bool)
no_fields b = (1, nat_lt 11 (at b 1)) ∷ (2, is_wrong_no_value (at b 1) (big_number 4 (drop 2 b))) ∷ []

-- the fields of a message of a kind that can be wrong, in their order
unfoldable pub fields_by : ℕ → List ℕ → List (ℕ × Bool)
fields_by kind b = if kind == 3 then bit_fields b else if kind == 5 then insert_fields b else if kind == 6 then query_fields b else if kind == 7 then bit_fields b else if kind == 11 then rows_fields b else if kind == 13 then ended_fields b else if kind == 14 then no_fields b else []

abbrev pub fields_of : List ℕ → List (ℕ × Bool)
fields_of b = fields_by (at b 0) b

-- the bytes are long enough for the fields of their kind that can be wrong
pub record HasFields (b : List ℕ) : Type 0 where
  pub kind : 1 ≤ length b
  pub go : at b 0 ≡ 3 → 2 ≤ length b
  pub insert : at b 0 ≡ 5 → 3 ≤ length b
  pub query : at b 0 ≡ 6 → 25 ≤ length b
  pub ends : at b 0 ≡ 7 → 2 ≤ length b
  pub rows : at b 0 ≡ 11 → 6 ≤ length b
  pub ended : at b 0 ≡ 13 → 11 ≤ length b
  pub no : at b 0 ≡ 14 → 6 ≤ length b

unfoldable pub value_fault : Option ℕ → Option WireStop
value_fault None = None
value_fault (Some offset) = Some (Value offset)

unfoldable pub fault_by : Result Kind Cut → List ℕ → Option WireStop
fault_by (Err (cuts.Short offset)) bytes = Some (Short offset)
fault_by (Err (cuts.Kind offset)) bytes = Some (NoKind offset)
fault_by (Err (cuts.Length offset)) bytes = Some (Length offset)
fault_by (Ok kind) bytes = value_fault (first_wrong (fields_of bytes))

-- the first fault of bytes that are to be a request; none where they spell one
unfoldable pub request_fault : List ℕ → Option WireStop
request_fault bytes = fault_by (cut request_kinds bytes) bytes

-- the first fault of bytes that are to be a reply
unfoldable pub reply_fault : List ℕ → Option WireStop
reply_fault bytes = fault_by (cut reply_kinds bytes) bytes
