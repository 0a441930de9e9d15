-- The bytes of a message that breaks no rule have no fault.
use Rattle.std.proofs.Common.{◌≡◌, ◌≤◌, ◌<◌, ◌+◌, ◌*◌, ◌-◌, ◌^◌, ℕ, zero, suc, Bool, true, false, not, ◌&&◌, nat_lt, nat_le, is_some, unwrap_or, List, [], ◌∷◌, ◌++◌, length, drop, replicate, Option, None, Some, Ok, IsTrue, refl, ap, sym, subst, ◌∙◌, arith, length-append}
use Rattle.std.specs.Bool.{◌==◌}
use Rattle.std.specs.List.{flat_map}
use Rattle.std.proofs.Math.Bool.{and-false}
use Rattle.std.proofs.lemmas.Bool.{and_parts, ltb-true}
use Rattle.std.proofs.lemmas.Bool.Decides.{nat_tests}
use Rattle.byteorder.specs.Endian.{big_number, big_bytes}
use Rattle.byteorder.specs.Numbers.{big_number-reads_back}
use Rattle.case_tables.specs.Tables.{IsMessage, cut, cut_by, cut_within, whole_length}
use Rattle.case_tables.specs.declared.rows.Kind.{Kind}
use Rattle.tree_model.specs.declared.Side.TheVariants.{Left, Right}
use Rattle.walk_proto.specs.Faults.{at, first_wrong, fields_of, fields_by, fault_by, value_fault, request_fault, reply_fault, bit_fields, insert_fields, rows_fields, ended_fields, no_fields, query_fields, query_head_fields, query_column_fields, query_cond_fields, column_fields, op_fields}
use Rattle.walk_proto.specs.Kinds.{row, request_kinds, reply_kinds}
use Rattle.walk_proto.specs.Rules.{IsRequest, IsReply, is_asked, are_ops, is_rows, is_ended, is_no, is_wrong_op, is_wrong_width, is_wrong_limit, is_wrong_column, is_wrong_rows_count, is_wrong_no_value}
use Rattle.walk_proto.specs.Shapes.{ReplyFits}
use Rattle.walk_proto.specs.Spelling.{flag, how_byte, body_bytes, cond_bytes, column_bytes, limit_bytes, columns_bytes, conds_bytes, asked_bytes, request_bytes, reply_bytes}
use Rattle.walk_proto.specs.declared.messages.Asked.{Asked}
use Rattle.walk_proto.specs.declared.messages.How.{How}
use Rattle.walk_proto.specs.declared.messages.How.TheVariants.{Began, Closed, Committed, Conflict, Installed, Stale}
use Rattle.walk_proto.specs.declared.messages.Reply.{Reply}
use Rattle.walk_proto.specs.declared.messages.Reply.TheVariants.{Node, Placed, Rows, Count, Ended, No}
use Rattle.walk_proto.specs.declared.messages.Request.{Request}
use Rattle.walk_proto.specs.declared.messages.Request.TheVariants.{Begin, WalkStart, Go, Found, Insert, Query, End, Rebuild}
use Rattle.walk_proto.proofs.AskedParts.{AskedParts, asked_parts, asked_fits, not_wrong}
use Rattle.walk_proto.proofs.FaultlessBytes.{one_byte}
use Rattle.walk_proto.proofs.FirstWrong.{found_later, right7}
use Rattle.walk_proto.proofs.RulesOf.{spelled_query, query_width, query_columns, query_count, query_conds, query_head_values, length-column_bytes, length-bodies}

not_less : (a b : ℕ) → b ≤ a → nat_lt a b ≡ false
not_less a b h = grind (arith, nat_tests)

not_within : (a b : ℕ) → b < a → nat_le a b ≡ false
not_within a b h = grind (arith, nat_tests)

cut_ok : (rows : List Kind) (b : List ℕ) (kind : Kind) → IsMessage rows kind b → 1 ≤ length b → cut rows b ≡ Ok kind
unfolding cut cut_by cut_within
cut_ok rows [] kind m h = absurd (omega arith)
cut_ok rows (x ∷ rest) kind m h =
    let head = not_less (length (x ∷ rest)) kind.head m.headed in
    let least = not_less (length (x ∷ rest)) (whole_length kind (x ∷ rest)) (omega (arith, m.whole)) in
    let most = not_less (whole_length kind (x ∷ rest)) (length (x ∷ rest)) (omega (arith, m.whole)) in
    rw (m.found, head, least, most) refl

faultless : (rows : List Kind) (b : List ℕ) (kind : Kind) → IsMessage rows kind b → 1 ≤ length b → first_wrong (fields_of b) ≡ None → fault_by (cut rows b) b ≡ None
unfolding fault_by value_fault
faultless rows b kind m h e = rw (cut_ok rows b kind m h) (ap value_fault e)

right1 : (i : ℕ) (a : Bool) → a ≡ false → first_wrong ((i, a) ∷ []) ≡ None
unfolding first_wrong
right1 i a e = rw e refl

right2 : (i j : ℕ) (a b : Bool) → a ≡ false → b ≡ false → first_wrong ((i, a) ∷ (j, b) ∷ []) ≡ None
unfolding first_wrong
right2 i j a b e f = rw (e, f) refl

right_then : (i : ℕ) (a : Bool) (rest : List (ℕ × Bool)) → a ≡ false → first_wrong rest ≡ None → first_wrong ((i, a) ∷ rest) ≡ None
unfolding first_wrong
right_then i a rest e f = rw e f

zeros_right : (width place n : ℕ) → first_wrong (column_fields width place (replicate n 0)) ≡ None
unfolding first_wrong column_fields
zeros_right width place zero = refl
zeros_right width place (suc n) = right_then (16 + place) (is_wrong_column width place 0) (column_fields width (place + 1) (replicate n 0)) (and-false (nat_le width place)) (zeros_right width (place + 1) n)

columns_right : (width place : ℕ) (columns : List ℕ) (n : ℕ) → place + length columns ≡ width → first_wrong (column_fields width place (columns ++ replicate n 0)) ≡ None
unfolding column_fields
columns_right width place [] n e = zeros_right width place n
columns_right width place (column ∷ rest) n e =
    let within : is_wrong_column width place column ≡ false = ap (λ b. b && not (column == 0)) (not_within width place (omega arith)) in
    right_then (16 + place) (is_wrong_column width place column) (column_fields width (place + 1) (rest ++ replicate n 0)) within (columns_right width (place + 1) rest n (omega arith))

ops_none : (conds : List (ℕ × ℕ)) (offset : ℕ) → IsTrue (are_ops conds) → first_wrong (op_fields offset (flat_map cond_bytes conds)) ≡ None
unfolding first_wrong op_fields are_ops
ops_none [] offset ok = refl
ops_none (cond ∷ rest) offset ok =
    let both = and_parts (not (is_wrong_op cond.1)) (are_ops rest) ok in
    right_then (offset + 1) (is_wrong_op cond.1) (op_fields (offset + 2) (flat_map cond_bytes rest)) (not_wrong (is_wrong_op cond.1) both.0) (ops_none rest (offset + 2) both.1)

limit_right : (limit : Option ℕ) (rest : List ℕ) → is_wrong_limit (flag (is_some limit)) (big_number 8 (big_bytes 8 (unwrap_or limit 0) ++ rest)) ≡ false
limit_right None rest = refl
limit_right (Some n) rest = and-false _

query_limit : (a : Asked) → is_wrong_limit (flag (is_some a.limit)) (big_number 8 (drop 7 (spelled_query a))) ≡ false
unfolding asked_bytes limit_bytes
query_limit a = limit_right a.limit (columns_bytes a.columns ++ conds_bytes a.conds)

length-conds : (conds : List (ℕ × ℕ)) → length (flat_map cond_bytes conds) ≡ length conds * 2
length-conds [] = refl
length-conds (cond ∷ rest) = omega (arith, length-conds rest)

query_long : (a : Asked) → length a.columns ≤ 8 → length (spelled_query a) ≡ 25 + length a.conds * 2
unfolding asked_bytes limit_bytes columns_bytes conds_bytes
query_long a h = omega (arith, length-append (column_bytes a.columns) (length a.conds ∷ flat_map cond_bytes a.conds), length-column_bytes a.columns h, length-conds a.conds)

query_fields_right : (a : Asked) → IsTrue (is_asked a) → first_wrong (query_fields (spelled_query a)) ≡ None
unfolding query_fields query_column_fields query_cond_fields column_bytes
query_fields_right a ok =
    let b = spelled_query a in
    let p : AskedParts a = asked_parts a ok in
    let few = (asked_fits a ok).0 in
    let head : first_wrong (query_head_fields b) ≡ None = ap first_wrong (query_head_values a) ∙ right7 _ _ _ _ _ _ _ _ _ _ _ _ _ _ p.verb p.target p.order p.order_column p.limited (query_limit a) p.width in
    let columns : first_wrong (query_column_fields b) ≡ None = rw (query_width a, query_columns a few) (columns_right (length a.columns) 0 a.columns (8 - length a.columns) (omega arith)) in
    let ops = subst (λ xs. first_wrong (op_fields 25 xs) ≡ None) (sym (query_conds a few)) (ops_none a.conds 25 p.ops) in
    let count : nat_lt 8 (at b 24) ≡ false = subst (λ n. nat_lt 8 n ≡ false) (sym (query_count a few)) p.conds in
    let conds : first_wrong (query_cond_fields b) ≡ None = right_then 24 (nat_lt 8 (at b 24)) (op_fields 25 (drop 25 b)) count ops in
    found_later (query_head_fields b) (query_column_fields b ++ query_cond_fields b) head ∙ found_later (query_column_fields b) (query_cond_fields b) columns ∙ conds

query_message : (a : Asked) → length a.columns ≤ 8 → IsMessage request_kinds (row 6 25 1 2) (spelled_query a)
unfolding request_kinds
query_message a few =
    let b = spelled_query a in
    let counted = one_byte 24 b ∙ query_count a few in
    record {
      found = refl;
      headed = omega (arith, query_long a few);
      whole = query_long a few ∙ ap (λ n. 25 + n * 2) (sym counted);
    }

pub request_faultless : (r : Request) → IsRequest r → request_fault (request_bytes r) ≡ None
unfolding request_fault cut cut_by cut_within fault_by value_fault first_wrong fields_by bit_fields insert_fields request_kinds request_bytes
request_faultless Begin ok = refl
request_faultless (WalkStart table column) ok = refl
request_faultless (Go Left) ok = refl
request_faultless (Go Right) ok = refl
request_faultless Found ok = refl
request_faultless (Insert table bodies) ok =
    let b = 5 ∷ table.0 ∷ length bodies ∷ flat_map body_bytes bodies in
    let whole : length b ≡ 3 + big_number 1 (drop 2 b) * 16 = omega (arith, length-bodies bodies) in
    faultless request_kinds b (row 5 3 1 16) (record { found = refl; headed = omega arith; whole = whole }) (omega arith) (right1 2 (is_wrong_width (length bodies)) (not_wrong _ ok))
request_faultless (Query a) ok =
    let few = (asked_fits a ok).0 in
    faultless request_kinds (spelled_query a) (row 6 25 1 2) (query_message a few) (omega arith) (query_fields_right a ok)
request_faultless (End true) ok = refl
request_faultless (End false) ok = refl
request_faultless (Rebuild table column) ok = refl

how_low : (how : How) → nat_lt 5 (how_byte how) ≡ false
how_low Began = refl
how_low Closed = refl
how_low Committed = refl
how_low Conflict = refl
how_low Installed = refl
how_low Stale = refl

pub reply_faultless : (r : Reply) → ReplyFits r → IsReply r → reply_fault (reply_bytes r) ≡ None
unfolding reply_fault fields_by rows_fields ended_fields no_fields first_wrong is_rows is_ended is_no reply_kinds reply_bytes body_bytes
reply_faultless (Node body) fits ok = faultless reply_kinds (9 ∷ body_bytes body) (row 9 17 0 0) (record { found = refl; headed = omega arith; whole = refl }) (omega arith) refl
reply_faultless Placed fits ok = faultless reply_kinds (10 ∷ []) (row 10 1 0 0) (record { found = refl; headed = omega arith; whole = refl }) (omega arith) refl
reply_faultless (Rows width bodies) fits ok =
    let n = length bodies in
    let b = 11 ∷ width ∷ (big_bytes 4 n ++ flat_map body_bytes bodies) in
    let all = and_parts _ _ ok in
    let some = and_parts _ _ all.0 in
    let short : n < 256 ^ 4 = ltb-true n (2 ^ 32) all.1 in
    let back : big_number 4 (drop 2 b) ≡ n = big_number-reads_back 4 n (flat_map body_bytes bodies) short in
    let whole : length b ≡ 6 + big_number 4 (drop 2 b) * 16 = omega (arith, length-bodies bodies, back) in
    let even : is_wrong_rows_count width (big_number 4 (drop 2 b)) ≡ false = subst (λ k. is_wrong_rows_count width k ≡ false) (sym back) (not_wrong _ some.1) in
    faultless reply_kinds b (row 11 6 4 16) (record { found = refl; headed = omega arith; whole = whole }) (omega arith) (right2 1 2 (is_wrong_width width) _ (not_wrong _ some.0) even)
reply_faultless (Count number) fits ok = faultless reply_kinds (12 ∷ big_bytes 8 number) (row 12 9 0 0) (record { found = refl; headed = omega arith; whole = refl }) (omega arith) refl
reply_faultless (Ended how table number) fits ok = faultless reply_kinds (13 ∷ how_byte how ∷ table ∷ big_bytes 8 number) (row 13 11 0 0) (record { found = refl; headed = omega arith; whole = refl }) (omega arith) (right2 1 2 (nat_lt 5 (how_byte how)) _ (how_low how) (not_wrong _ ok))
reply_faultless (No code value) fits ok =
    let both = and_parts _ _ ok in
    let back : big_number 4 (big_bytes 4 value) ≡ value = big_number-reads_back 4 value [] fits in
    let right : is_wrong_no_value code (big_number 4 (big_bytes 4 value)) ≡ false = subst (λ k. is_wrong_no_value code k ≡ false) (sym back) (not_wrong _ both.1) in
    faultless reply_kinds (14 ∷ code ∷ big_bytes 4 value) (row 14 6 0 0) (record { found = refl; headed = omega arith; whole = refl }) (omega arith) (right2 1 2 (nat_lt 11 code) _ (not_wrong _ both.0) right)
