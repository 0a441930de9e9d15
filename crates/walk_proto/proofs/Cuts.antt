-- The first fault of bytes by the table of all kinds, and by those of one direction.
use Rattle.std.proofs.Common.{◌≡◌, ◌≤◌, ◌<◌, ℕ, false, List, [], ◌∷◌, length, None, Some, Result, Ok, Err, IfOk, OnOk, refl, ap, subst, arith}
use Rattle.std.specs.Bool.{◌==◌}
use Rattle.std.proofs.lemmas.Bool.Decides.{nat_tests}
use Rattle.case_tables.specs.Tables.{cut, cut_by, cut_within, row_of}
use Rattle.case_tables.specs.declared.rows.Kind.{Kind}
use Rattle.case_tables.specs.declared.rows.Cut.{Cut}
use Rattle.case_tables.specs.declared.rows.Cut.TheVariants as cuts
use Rattle.walk_proto.specs.Faults.{HasFields, at}
use Rattle.walk_proto.specs.Kinds.{row, request_kinds, reply_kinds, all_kinds}

pub same_cut : (rows others : List Kind) (bytes : List ℕ) → row_of (at bytes 0) rows ≡ row_of (at bytes 0) others → cut rows bytes ≡ cut others bytes
unfolding cut
same_cut rows others [] e = refl
same_cut rows others (b ∷ rest) e = ap (λ r. cut_by r (b ∷ rest)) e

pub no_kind : (rows : List Kind) (bytes : List ℕ) → 1 ≤ length bytes → row_of (at bytes 0) rows ≡ None → cut rows bytes ≡ Err (cuts.Kind 0)
unfolding cut cut_by
no_kind rows [] h e = absurd (omega arith)
no_kind rows (b ∷ rest) h e = ap (λ r. cut_by r (b ∷ rest)) e

pub one_kind : (rows : List Kind) (kind : Kind) (bytes : List ℕ) → 1 ≤ length bytes → row_of (at bytes 0) rows ≡ Some kind → cut rows bytes ≡ cut_within kind bytes
unfolding cut cut_by
one_kind rows kind [] h e = absurd (omega arith)
one_kind rows kind (b ∷ rest) h e = ap (λ r. cut_by r (b ∷ rest)) e

pub no_bytes : (rows : List Kind) (bytes : List ℕ) → length bytes < 1 → cut rows bytes ≡ Err (cuts.Short 0)
unfolding cut
no_bytes rows [] h = refl
no_bytes rows (b ∷ rest) h = absurd (omega arith)

pub apart_below : (k n : ℕ) → k < n → (k == n) ≡ false
apart_below k n h = grind (arith, nat_tests)

apart_above : (k n : ℕ) → n < k → (k == n) ≡ false
apart_above k n h = grind (arith, nat_tests)

pub requests_first : (n : ℕ) → 1 ≤ n → n ≤ 8 → row_of n all_kinds ≡ row_of n request_kinds
unfolding all_kinds request_kinds reply_kinds
requests_first n low high = rw (apart_above 9 n (omega arith), apart_above 10 n (omega arith), apart_above 11 n (omega arith), apart_above 12 n (omega arith), apart_above 13 n (omega arith), apart_above 14 n (omega arith)) refl

pub replies_last : (n : ℕ) → 9 ≤ n → row_of n all_kinds ≡ row_of n reply_kinds
unfolding all_kinds request_kinds reply_kinds
replies_last n low = rw (apart_below 1 n (omega arith), apart_below 2 n (omega arith), apart_below 3 n (omega arith), apart_below 4 n (omega arith), apart_below 5 n (omega arith), apart_below 6 n (omega arith), apart_below 7 n (omega arith), apart_below 8 n (omega arith)) refl

pub no_request_zero : (n : ℕ) → n < 1 → row_of n request_kinds ≡ None
unfolding request_kinds
no_request_zero n h = let e : n ≡ 0 = omega arith in rw e refl

pub no_request_above : (n : ℕ) → 8 < n → row_of n request_kinds ≡ None
unfolding request_kinds
no_request_above n h = rw (apart_below 1 n (omega arith), apart_below 2 n (omega arith), apart_below 3 n (omega arith), apart_below 4 n (omega arith), apart_below 5 n (omega arith), apart_below 6 n (omega arith), apart_below 7 n (omega arith), apart_below 8 n (omega arith)) refl

pub no_reply_below : (n : ℕ) → n < 9 → row_of n reply_kinds ≡ None
unfolding reply_kinds
no_reply_below n h = rw (apart_above 9 n (omega arith), apart_above 10 n (omega arith), apart_above 11 n (omega arith), apart_above 12 n (omega arith), apart_above 13 n (omega arith), apart_above 14 n (omega arith)) refl

same_head : (n : ℕ) (kind want : Kind) → row_of n all_kinds ≡ Some kind → row_of n all_kinds ≡ Some want → want.head ≡ kind.head
same_head n kind want e f = let one : want ≡ kind = cc in ap (λ (k : Kind). k.head) one

head_of : (bytes : List ℕ) (kind want : Kind) (n : ℕ) → row_of (at bytes 0) all_kinds ≡ Some kind → kind.head ≤ length bytes → at bytes 0 ≡ n → row_of n all_kinds ≡ Some want → want.head ≤ length bytes
head_of bytes kind want n found headed e f =
    let same : row_of n all_kinds ≡ Some kind = subst (λ k. row_of k all_kinds ≡ Some kind) e found in
    omega (arith, same_head n kind want same f, headed)

some_bytes : (bytes : List ℕ) (kind : Kind) → row_of (at bytes 0) all_kinds ≡ Some kind → 1 ≤ length bytes
unfolding all_kinds request_kinds reply_kinds
some_bytes [] kind e = absurd (cc)
some_bytes (b ∷ bytes) kind e = omega arith

has_fields : (bytes : List ℕ) (kind : Kind) → row_of (at bytes 0) all_kinds ≡ Some kind → kind.head ≤ length bytes → HasFields bytes
unfolding all_kinds request_kinds reply_kinds
has_fields bytes kind found headed = record {
  kind = some_bytes bytes kind found;
  go = λ e. head_of bytes kind (row 3 2 0 0) 3 found headed e refl;
  insert = λ e. head_of bytes kind (row 5 3 1 16) 5 found headed e refl;
  query = λ e. head_of bytes kind (row 6 25 1 2) 6 found headed e refl;
  ends = λ e. head_of bytes kind (row 7 2 0 0) 7 found headed e refl;
  rows = λ e. head_of bytes kind (row 11 6 4 16) 11 found headed e refl;
  ended = λ e. head_of bytes kind (row 13 11 0 0) 13 found headed e refl;
  no = λ e. head_of bytes kind (row 14 6 0 0) 14 found headed e refl;
}

pub fields_ok : (bytes : List ℕ) (kind : Kind) (r : Result Kind Cut) → row_of (at bytes 0) all_kinds ≡ Some kind → OnOk r (kind.head ≤ length bytes) → IfOk r (λ _. HasFields bytes)
fields_ok bytes kind (Ok it) found headed = has_fields bytes kind found headed
fields_ok bytes kind (Err cut) found headed = tt
