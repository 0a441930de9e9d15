-- A message whose bytes have no fault breaks no rule.
use Rattle.std.proofs.Common.{◌≡◌, ◌≤◌, ◌<◌, ◌+◌, ◌*◌, ◌-◌, ◌^◌, ℕ, false, not, nat_lt, is_some, List, [], ◌∷◌, ◌++◌, length, take, drop, replicate, None, IsTrue, refl, ap, subst, arith, length-append}
use Rattle.std.proofs.lemmas.List.{length-replicate}
use Rattle.std.specs.List.{flat_map}
use Rattle.std.specs.Cmp.Derive.{both_true}
use Rattle.std.proofs.Math.Seq.{drop-append-add, get_or-append_seam, take-append_seam}
use Rattle.byteorder.specs.Endian.{big_number, big_bytes}
use Rattle.byteorder.specs.Numbers.{big_from-bytes, big_number-reads_back}
use Rattle.std.proofs.lemmas.Bool.{lt-ltb}
use Rattle.mope_base.specs.declared.body.Body.{Body}
use Rattle.walk_proto.specs.Shapes.{ReplyFits}
use Rattle.walk_proto.specs.Faults.{at, first_wrong, fields_by, request_fault, reply_fault, insert_fields, rows_fields, ended_fields, no_fields, query_fields, query_head_fields, query_column_fields, query_cond_fields, op_fields}
use Rattle.walk_proto.specs.Kinds.{row, request_kinds, reply_kinds}
use Rattle.walk_proto.specs.Rules.{IsRequest, IsReply, is_asked, are_ops, is_rows, is_ended, is_no, is_wrong_op, is_wrong_width, is_wrong_rows_count, is_wrong_ended_table, is_wrong_no_value, is_wrong_target, is_wrong_order, is_wrong_order_column, is_wrong_limited, is_wrong_limit, is_wrong_query_width}
use Rattle.walk_proto.specs.Spelling.{flag, how_byte, body_bytes, cond_bytes, column_bytes, limit_bytes, columns_bytes, conds_bytes, asked_bytes, request_bytes, reply_bytes}
use Rattle.walk_proto.specs.declared.messages.Asked.{Asked}
use Rattle.walk_proto.specs.declared.messages.Reply.{Reply}
use Rattle.walk_proto.specs.declared.messages.Reply.TheVariants.{Node, Placed, Rows, Count, Ended, No}
use Rattle.walk_proto.specs.declared.messages.Request.{Request}
use Rattle.walk_proto.specs.declared.messages.Request.TheVariants.{Begin, WalkStart, Go, Found, Insert, Query, End, Rebuild}
use Rattle.walk_proto.proofs.AskedParts.{narrow}
use Rattle.walk_proto.proofs.FaultlessBytes.{passed, whole_is, right_by, right_field, right_parts}

pub length-column_bytes : (columns : List ℕ) → length columns ≤ 8 → length (column_bytes columns) ≡ 8
unfolding column_bytes
length-column_bytes columns h = omega (arith, length-append columns (replicate (8 - length columns) 0), length-replicate {A = ℕ} (8 - length columns) 0)

at_seam : (xs : List ℕ) (y : ℕ) (ys : List ℕ) (k : ℕ) → length xs ≡ k → at (xs ++ y ∷ ys) k ≡ y
at_seam xs y ys k e = subst (λ n. at (xs ++ y ∷ ys) n ≡ y) e (get_or-append_seam xs y ys 0)

drop_seam : (xs : List ℕ) (y : ℕ) (ys : List ℕ) (k : ℕ) → length xs ≡ k → drop (k + 1) (xs ++ y ∷ ys) ≡ ys
drop_seam xs y ys k e = subst (λ n. drop (n + 1) (xs ++ y ∷ ys) ≡ ys) e (drop-append-add xs (y ∷ ys) 1)

take_seam : (xs ys : List ℕ) (k : ℕ) → length xs ≡ k → take k (xs ++ ys) ≡ xs
take_seam xs ys k e = subst (λ n. take n (xs ++ ys) ≡ xs) e (take-append_seam xs ys)

-- the bytes of a Query
abbrev pub spelled_query : Asked → List ℕ
spelled_query a = 6 ∷ asked_bytes a

pub query_width : (a : Asked) → at (spelled_query a) 15 ≡ length a.columns
unfolding asked_bytes limit_bytes columns_bytes
query_width a = refl

pub query_columns : (a : Asked) → length a.columns ≤ 8 → take 8 (drop 16 (spelled_query a)) ≡ column_bytes a.columns
unfolding asked_bytes limit_bytes columns_bytes
query_columns a h = take_seam (column_bytes a.columns) (conds_bytes a.conds) 8 (length-column_bytes a.columns h)

pub query_count : (a : Asked) → length a.columns ≤ 8 → at (spelled_query a) 24 ≡ length a.conds
unfolding asked_bytes limit_bytes columns_bytes conds_bytes
query_count a h = at_seam (column_bytes a.columns) (length a.conds) (flat_map cond_bytes a.conds) 8 (length-column_bytes a.columns h)

pub query_conds : (a : Asked) → length a.columns ≤ 8 → drop 25 (spelled_query a) ≡ flat_map cond_bytes a.conds
unfolding asked_bytes limit_bytes columns_bytes conds_bytes
query_conds a h = drop_seam (column_bytes a.columns) (length a.conds) (flat_map cond_bytes a.conds) 8 (length-column_bytes a.columns h)

ops_right : (conds : List (ℕ × ℕ)) (offset : ℕ) → first_wrong (op_fields offset (flat_map cond_bytes conds)) ≡ None → IsTrue (are_ops conds)
unfolding op_fields are_ops
ops_right [] offset e = refl
ops_right (cond ∷ rest) offset e =
    let here = right_field (offset + 1) (is_wrong_op cond.1) (op_fields (offset + 2) (flat_map cond_bytes rest)) e in
    both_true (ap not here.0) (ops_right rest (offset + 2) here.1)

pub query_head_values : (a : Asked) → query_head_fields (spelled_query a) ≡ (2, nat_lt 4 a.verb) ∷ (3, is_wrong_target a.verb a.target) ∷ (4, is_wrong_order a.verb a.order) ∷ (5, is_wrong_order_column a.order a.order_column) ∷ (6, is_wrong_limited a.verb (flag (is_some a.limit))) ∷ (7, is_wrong_limit (flag (is_some a.limit)) (big_number 8 (drop 7 (spelled_query a)))) ∷ (15, is_wrong_query_width a.verb (length a.columns)) ∷ []
unfolding query_head_fields asked_bytes limit_bytes columns_bytes
query_head_values a = refl

query_rules : (a : Asked) → first_wrong (query_fields (spelled_query a)) ≡ None → IsTrue (is_asked a)
unfolding query_fields query_cond_fields is_asked
query_rules a e =
    let b = spelled_query a in
    let parts = right_parts (query_head_fields b) (query_column_fields b ++ query_cond_fields b) e in
    let tail = right_parts (query_column_fields b) (query_cond_fields b) parts.1 in
    let head = subst (λ fields. first_wrong fields ≡ None) (query_head_values a) parts.0 in
    let verb = right_field 2 (nat_lt 4 a.verb) _ head in
    let target = right_field 3 (is_wrong_target a.verb a.target) _ verb.1 in
    let order = right_field 4 (is_wrong_order a.verb a.order) _ target.1 in
    let order_column = right_field 5 (is_wrong_order_column a.order a.order_column) _ order.1 in
    let limited = right_field 6 (is_wrong_limited a.verb (flag (is_some a.limit))) _ order_column.1 in
    let limit = right_field 7 (is_wrong_limit (flag (is_some a.limit)) (big_number 8 (drop 7 b))) _ limited.1 in
    let width = right_field 15 (is_wrong_query_width a.verb (length a.columns)) _ limit.1 in
    let few : length a.columns ≤ 8 = narrow a.verb (length a.columns) width.0 in
    let count = right_field 24 (nat_lt 8 (at b 24)) (op_fields 25 (drop 25 b)) tail.1 in
    let counted : nat_lt 8 (length a.conds) ≡ false = subst (λ n. nat_lt 8 n ≡ false) (query_count a few) count.0 in
    let ops = ops_right a.conds 25 (subst (λ xs. first_wrong (op_fields 25 xs) ≡ None) (query_conds a few) count.1) in
    both_true (both_true (both_true (both_true (both_true (both_true (both_true (ap not verb.0) (ap not target.0)) (ap not order.0)) (ap not order_column.0)) (ap not limited.0)) (ap not width.0)) (ap not counted)) ops

request_right : (b : List ℕ) (n : ℕ) → request_fault b ≡ None → at b 0 ≡ n → first_wrong (fields_by n b) ≡ None
unfolding request_fault
request_right b n f e = right_by request_kinds b (passed request_kinds b f) n e

reply_right : (b : List ℕ) (n : ℕ) → reply_fault b ≡ None → at b 0 ≡ n → first_wrong (fields_by n b) ≡ None
unfolding reply_fault
reply_right b n f e = right_by reply_kinds b (passed reply_kinds b f) n e

pub request_rules : (r : Request) → request_fault (request_bytes r) ≡ None → IsRequest r
unfolding request_bytes fields_by insert_fields
request_rules Begin f = tt
request_rules (WalkStart table column) f = tt
request_rules (Go side) f = tt
request_rules Found f = tt
request_rules (Insert table bodies) f =
    let b = 5 ∷ table.0 ∷ length bodies ∷ flat_map body_bytes bodies in
    ap not (right_field 2 (is_wrong_width (length bodies)) [] (request_right b 5 f refl)).0
request_rules (Query a) f = query_rules a (request_right (spelled_query a) 6 f refl)
request_rules (End commit) f = tt
request_rules (Rebuild table column) f = tt

pub length-bodies : (bodies : List Body) → length (flat_map body_bytes bodies) ≡ length bodies * 16
unfolding body_bytes
length-bodies [] = refl
length-bodies (body ∷ rest) = omega (arith, length-bodies rest)

rows_length : (b : List ℕ) → reply_fault b ≡ None → at b 0 ≡ 11 → length b ≡ 6 + big_number 4 (drop 2 b) * 16
unfolding reply_fault reply_kinds
rows_length b f e = whole_is reply_kinds b (passed reply_kinds b f) 11 (row 11 6 4 16) e refl

pub reply_rules : (r : Reply) → ReplyFits r → reply_fault (reply_bytes r) ≡ None → IsReply r
unfolding reply_bytes fields_by rows_fields ended_fields no_fields is_rows is_ended is_no
reply_rules (Node body) fits f = tt
reply_rules Placed fits f = tt
reply_rules (Rows width bodies) fits f =
    let n = length bodies in
    let b = 11 ∷ width ∷ (big_bytes 4 n ++ flat_map body_bytes bodies) in
    let whole = rows_length b f refl in
    let counted : big_number 4 (drop 2 b) ≡ n = omega (arith, whole, length-bodies bodies) in
    let short : n < 2 ^ 32 = omega (arith, big_from-bytes 4 n (flat_map body_bytes bodies), counted) in
    let first = right_field 1 (is_wrong_width width) _ (reply_right b 11 f refl) in
    let second = right_field 2 (is_wrong_rows_count width (big_number 4 (drop 2 b))) [] first.1 in
    both_true (both_true (ap not first.0) (ap not (subst (λ k. is_wrong_rows_count width k ≡ false) counted second.0))) (lt-ltb n (2 ^ 32) short)
reply_rules (Count number) fits f = tt
reply_rules (Ended how table number) fits f =
    let b = 13 ∷ how_byte how ∷ table ∷ big_bytes 8 number in
    let first = right_field 1 (nat_lt 5 (how_byte how)) _ (reply_right b 13 f refl) in
    ap not (right_field 2 (is_wrong_ended_table (how_byte how) table) [] first.1).0
reply_rules (No code value) fits f =
    let b = 14 ∷ code ∷ big_bytes 4 value in
    let back : big_number 4 (big_bytes 4 value) ≡ value = big_number-reads_back 4 value [] fits in
    let first = right_field 1 (nat_lt 11 code) _ (reply_right b 14 f refl) in
    let second = right_field 2 (is_wrong_no_value code (big_number 4 (big_bytes 4 value))) [] first.1 in
    both_true (ap not first.0) (ap not (subst (λ n. is_wrong_no_value code n ≡ false) back second.0))
