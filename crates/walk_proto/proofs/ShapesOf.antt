-- The shapes of bytes in which no fault was found.
use Rattle.std.proofs.Common.{◌≡◌, ◌≤◌, ◌<◌, ◌+◌, ◌*◌, ◌-◌, ℕ, suc, false, nat_lt, List, [], ◌∷◌, ◌++◌, length, take, drop, replicate, None, Some, refl, ap, ◌∙◌, inl, inr, arith, length-drop}
use Rattle.std.proofs.lemmas.Bool.{cases_lt}
use Rattle.std.proofs.lemmas.Bool.Decides.{nat_tests}
use Rattle.std.proofs.lemmas.List.{length-take-le}
use Rattle.std.proofs.Math.Seq.{drop-nil}
use Rattle.byteorder.specs.Endian.{big_number}
use Rattle.case_tables.specs.Tables.{row_of}
use Rattle.case_tables.specs.declared.rows.Kind.{Kind}
use Rattle.walk_proto.specs.Faults.{at, first_wrong, fields_by, request_fault, reply_fault, bit_fields, query_fields, query_head_fields, query_column_fields, query_cond_fields, ended_fields, column_fields}
use Rattle.walk_proto.specs.Kinds.{row, request_kinds, reply_kinds}
use Rattle.walk_proto.specs.Rules.{is_wrong_target, is_wrong_order, is_wrong_order_column, is_wrong_limited, is_wrong_limit, is_wrong_query_width, is_wrong_column}
use Rattle.walk_proto.specs.Shapes.{QueryShape, RequestShape, ReplyShape}
use Rattle.walk_proto.proofs.AskedParts.{narrow}
use Rattle.walk_proto.proofs.Cuts.{apart_below, no_request_zero, no_request_above, no_reply_below}
use Rattle.walk_proto.proofs.FaultlessBytes.{Passed, passed, whole_is, right_by, right_field, right_parts, one_byte, not_below}

request_number : (n : ℕ) (kind : Kind) → row_of n request_kinds ≡ Some kind → (1 ≤ n) × (n ≤ 8)
request_number n kind e = elim (cases_lt n 1) [
  | inl low ↦ let none = no_request_zero n low in absurd (cc)
  | inr some ↦ elim (cases_lt 8 n) [
    | inl high ↦ let none = no_request_above n high in absurd (cc)
    | inr fits ↦ (some, fits)
  ]
]

above_14 : (n : ℕ) → 14 < n → row_of n reply_kinds ≡ None
unfolding reply_kinds
above_14 n h = rw (apart_below 9 n (omega arith), apart_below 10 n (omega arith), apart_below 11 n (omega arith), apart_below 12 n (omega arith), apart_below 13 n (omega arith), apart_below 14 n (omega arith)) refl

reply_number : (n : ℕ) (kind : Kind) → row_of n reply_kinds ≡ Some kind → (9 ≤ n) × (n ≤ 14)
reply_number n kind e = elim (cases_lt n 9) [
  | inl low ↦ let none = no_reply_below n low in absurd (cc)
  | inr some ↦ elim (cases_lt 14 n) [
    | inl high ↦ let none = above_14 n high in absurd (cc)
    | inr fits ↦ (some, fits)
  ]
]

not_empty : (b : List ℕ) → 1 ≤ at b 0 → 1 ≤ length b
not_empty [] h = absurd (omega arith)
not_empty (x ∷ b) h = omega arith

zero_limit : (limited limit : ℕ) → is_wrong_limit limited limit ≡ false → limited ≡ 0 → limit ≡ 0
zero_limit limited limit h e = grind (arith, nat_tests)

bit_limited : (verb limited : ℕ) → is_wrong_limited verb limited ≡ false → limited ≤ 1
bit_limited verb limited h = grind (arith, nat_tests)

zero_column : (width place column : ℕ) → is_wrong_column width place column ≡ false → width ≤ place → column ≡ 0
zero_column width place column h past = grind (arith, nat_tests)

-- past the width the columns are zeros
zeros_past : (width place : ℕ) (columns : List ℕ) → first_wrong (column_fields width place columns) ≡ None → drop (width - place) columns ≡ replicate (length columns - (width - place)) 0
unfolding column_fields
zeros_past width place [] e =
    let none : 0 - (width - place) ≡ 0 = omega arith in
    rw none (drop-nil (width - place))
zeros_past width place (column ∷ rest) e =
    let here = right_field (16 + place) (is_wrong_column width place column) (column_fields width (place + 1) rest) e in
    let ih = zeros_past width (place + 1) rest here.1 in
    elim (cases_lt place width) [
      | inl within ↦
          let gap : width - place ≡ suc (width - (place + 1)) = omega arith in
          let left : suc (length rest) - suc (width - (place + 1)) ≡ length rest - (width - (place + 1)) = omega arith in
          rw (gap, left) ih
      | inr past ↦
          let gap : width - place ≡ 0 = omega arith in
          let next : width - (place + 1) ≡ 0 = omega arith in
          let none : column ≡ 0 = zero_column width place column here.0 past in
          let all : suc (length rest) - 0 ≡ suc (length rest) = omega arith in
          let same : length rest - 0 ≡ length rest = omega arith in
          rw (gap, all, none) (ap (λ xs. 0 ∷ xs) (rw (next, same) at ih))
    ]

query_right : (b : List ℕ) → length b ≡ 25 + at b 24 * 2 → first_wrong (query_fields b) ≡ None → QueryShape b
unfolding query_fields query_head_fields query_column_fields query_cond_fields
query_right b long e =
    let parts = right_parts (query_head_fields b) (query_column_fields b ++ query_cond_fields b) e in
    let tail = right_parts (query_column_fields b) (query_cond_fields b) parts.1 in
    let verb = right_field 2 (nat_lt 4 (at b 2)) _ parts.0 in
    let target = right_field 3 (is_wrong_target (at b 2) (at b 3)) _ verb.1 in
    let order = right_field 4 (is_wrong_order (at b 2) (at b 4)) _ target.1 in
    let order_column = right_field 5 (is_wrong_order_column (at b 4) (at b 5)) _ order.1 in
    let limited = right_field 6 (is_wrong_limited (at b 2) (at b 6)) _ order_column.1 in
    let limit = right_field 7 (is_wrong_limit (at b 6) (big_number 8 (drop 7 b))) _ limited.1 in
    let width = right_field 15 (is_wrong_query_width (at b 2) (at b 15)) _ limit.1 in
    let eight : length (take 8 (drop 16 b)) ≡ 8 = length-take-le 8 (drop 16 b) (omega (arith, length-drop 16 b)) in
    let whole : at b 15 - 0 ≡ at b 15 = omega arith in
    let zeros = zeros_past (at b 15) 0 (take 8 (drop 16 b)) tail.0 in
    record {
      long = long;
      limited = bit_limited (at b 2) (at b 6) limited.0;
      unlimited = zero_limit (at b 6) (big_number 8 (drop 7 b)) limit.0;
      narrow = narrow (at b 2) (at b 15) width.0;
      zeros = rw (whole, eight) at zeros;
    }

pub request_shape : (b : List ℕ) → request_fault b ≡ None → RequestShape b
unfolding request_fault fields_by bit_fields request_kinds
request_shape b f =
    let p : Passed request_kinds b = passed request_kinds b f in
    let number = request_number (at b 0) p.kind p.message.found in
    record {
      some = not_empty b (omega (arith, number.0));
      low = number.0;
      high = number.1;
      begins = λ e. whole_is request_kinds b p 1 (row 1 1 0 0) e refl;
      walk_start = λ e. whole_is request_kinds b p 2 (row 2 3 0 0) e refl;
      go = λ e. (whole_is request_kinds b p 3 (row 3 2 0 0) e refl, not_below 1 (at b 1) (right_field 1 _ _ (right_by request_kinds b p 3 e)).0);
      found = λ e. whole_is request_kinds b p 4 (row 4 1 0 0) e refl;
      insert = λ e. whole_is request_kinds b p 5 (row 5 3 1 16) e refl ∙ ap (λ n. 3 + n * 16) (one_byte 2 b);
      query = λ e. query_right b (whole_is request_kinds b p 6 (row 6 25 1 2) e refl ∙ ap (λ n. 25 + n * 2) (one_byte 24 b)) (right_by request_kinds b p 6 e);
      ends = λ e. (whole_is request_kinds b p 7 (row 7 2 0 0) e refl, not_below 1 (at b 1) (right_field 1 _ _ (right_by request_kinds b p 7 e)).0);
      rebuild = λ e. whole_is request_kinds b p 8 (row 8 3 0 0) e refl;
    }

pub reply_shape : (b : List ℕ) → reply_fault b ≡ None → ReplyShape b
unfolding reply_fault fields_by ended_fields reply_kinds
reply_shape b f =
    let p : Passed reply_kinds b = passed reply_kinds b f in
    let number = reply_number (at b 0) p.kind p.message.found in
    record {
      some = not_empty b (omega (arith, number.0));
      low = number.0;
      high = number.1;
      node = λ e. whole_is reply_kinds b p 9 (row 9 17 0 0) e refl;
      placed = λ e. whole_is reply_kinds b p 10 (row 10 1 0 0) e refl;
      rows = λ e. whole_is reply_kinds b p 11 (row 11 6 4 16) e refl;
      count = λ e. whole_is reply_kinds b p 12 (row 12 9 0 0) e refl;
      ended = λ e. (whole_is reply_kinds b p 13 (row 13 11 0 0) e refl, not_below 5 (at b 1) (right_field 1 _ _ (right_by reply_kinds b p 13 e)).0);
      no = λ e. whole_is reply_kinds b p 14 (row 14 6 0 0) e refl;
    }
