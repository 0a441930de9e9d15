-- What is known of bytes in which no fault was found.
use Rattle.std.proofs.Common.{◌≡◌, ◌≤◌, ◌+◌, ℕ, Bool, true, false, nat_lt, List, [], ◌∷◌, ◌++◌, length, drop, Option, None, Some, Result, Ok, Err, refl, ap, subst, ◌∙◌, arith}
use Rattle.std.specs.Bool.{if◌then◌else◌}
use Rattle.std.proofs.lemmas.Bool.Decides.{nat_tests}
use Rattle.std.proofs.lemmas.List.{get_or-drop}
use Rattle.byteorder.specs.Endian.{big_number}
use Rattle.case_tables.specs.Tables.{cut, cut_by, cut_within, row_of, whole_length, IsMessage}
use Rattle.case_tables.specs.declared.rows.Kind.{Kind}
use Rattle.case_tables.specs.declared.rows.Cut.{Cut}
use Rattle.case_tables.specs.declared.rows.Cut.TheVariants as cuts
use Rattle.walk_proto.specs.Faults.{at, first_wrong, fields_by, fields_of, fault_by, value_fault}
use Rattle.walk_proto.specs.declared.faults.WireStop.{WireStop}
use Rattle.walk_proto.specs.declared.faults.WireStop.TheVariants.{Value}
use Rattle.walk_proto.specs.declared.faults.WireStop.TheVariants as stops
use Rattle.walk_proto.specs.Shapes.{fault_in}

-- the message that a table and its fields let through
pub record Passed (rows : List Kind) (bytes : List ℕ) : Type 0 where
  pub kind : Kind
  pub message : IsMessage rows kind bytes
  pub right : first_wrong (fields_of bytes) ≡ None

pub not_below : (a b : ℕ) → nat_lt a b ≡ false → b ≤ a
not_below a b h = grind (arith, nat_tests)

choices : (a b c : Bool) (e f g : Cut) (kind it : Kind) → (if a then Err e else if b then Err f else if c then Err g else Ok kind) ≡ Ok it → (a ≡ false) × (b ≡ false) × (c ≡ false) × (kind ≡ it)
choices true b c e f g kind it h = absurd (cc)
choices false true c e f g kind it h = absurd (cc)
choices false false true e f g kind it h = absurd (cc)
choices false false false e f g kind it h = (refl, refl, refl, cc)

within_ok : (kind : Kind) (bytes : List ℕ) (it : Kind) → cut_within kind bytes ≡ Ok it → (kind ≡ it) × (kind.head ≤ length bytes) × (length bytes ≡ whole_length kind bytes)
unfolding cut_within
within_ok kind bytes it e =
    let whole = whole_length kind bytes in
    let p = choices (nat_lt (length bytes) kind.head) (nat_lt (length bytes) whole) (nat_lt whole (length bytes)) (cuts.Short (length bytes)) (cuts.Short (length bytes)) (cuts.Length whole) kind it e in
    let low = not_below (length bytes) kind.head p.0 in
    let least = not_below (length bytes) whole p.1 in
    let most = not_below whole (length bytes) p.2 in
    (p.3, low, omega arith)

by_row : (o : Option Kind) (bytes : List ℕ) (kind : Kind) → cut_by o bytes ≡ Ok kind → (o ≡ Some kind) × (kind.head ≤ length bytes) × (length bytes ≡ whole_length kind bytes)
unfolding cut_by
by_row None bytes kind e = absurd (cc)
by_row (Some k) bytes kind e =
    let p = within_ok k bytes kind e in
    (ap Some p.0, subst (λ (it : Kind). it.head ≤ length bytes) p.0 p.1, subst (λ (it : Kind). length bytes ≡ whole_length it bytes) p.0 p.2)

message_of : (rows : List Kind) (bytes : List ℕ) (kind : Kind) → cut rows bytes ≡ Ok kind → IsMessage rows kind bytes
unfolding cut
message_of rows [] kind e = absurd (cc)
message_of rows (b ∷ rest) kind e =
    let p = by_row (row_of b rows) (b ∷ rest) kind e in
    record { found = p.0; headed = p.1; whole = p.2 }

value_none : (o : Option ℕ) → value_fault o ≡ None → o ≡ None
unfolding value_fault
value_none None e = refl
value_none (Some o) e = absurd (cc)

passed_by : (r : Result Kind Cut) (rows : List Kind) (bytes : List ℕ) → cut rows bytes ≡ r → fault_by r bytes ≡ None → Passed rows bytes
unfolding fault_by
passed_by (Ok kind) rows bytes e f = record { kind = kind; message = message_of rows bytes kind e; right = value_none (first_wrong (fields_of bytes)) f }
passed_by (Err (cuts.Short o)) rows bytes e f = absurd (cc)
passed_by (Err (cuts.Kind o)) rows bytes e f = absurd (cc)
passed_by (Err (cuts.Length o)) rows bytes e f = absurd (cc)

pub passed : (rows : List Kind) (bytes : List ℕ) → fault_by (cut rows bytes) bytes ≡ None → Passed rows bytes
passed rows bytes f = passed_by (cut rows bytes) rows bytes refl f

value_named : (o : Option ℕ) (e : WireStop) → value_fault o ≡ Some e → fault_in e ≡ Some e
unfolding value_fault
value_named None e h = absurd (cc)
value_named (Some o) e h = let one : Value o ≡ e = cc in subst (λ it. fault_in it ≡ Some it) one refl

-- no fault is want of memory
pub fault_named : (r : Result Kind Cut) (bytes : List ℕ) (e : WireStop) → fault_by r bytes ≡ Some e → fault_in e ≡ Some e
unfolding fault_by
fault_named (Ok kind) bytes e h = value_named (first_wrong (fields_of bytes)) e h
fault_named (Err (cuts.Short o)) bytes e h = let one : stops.Short o ≡ e = cc in subst (λ it. fault_in it ≡ Some it) one refl
fault_named (Err (cuts.Kind o)) bytes e h = let one : stops.Kind o ≡ e = cc in subst (λ it. fault_in it ≡ Some it) one refl
fault_named (Err (cuts.Length o)) bytes e h = let one : stops.Length o ≡ e = cc in subst (λ it. fault_in it ≡ Some it) one refl

chosen_none : (b : Bool) (o : ℕ) (rest : Option ℕ) → (if b then Some o else rest) ≡ None → (b ≡ false) × (rest ≡ None)
chosen_none true o rest e = absurd (cc)
chosen_none false o rest e = (refl, e)

pub right_field : (o : ℕ) (b : Bool) (rest : List (ℕ × Bool)) → first_wrong ((o, b) ∷ rest) ≡ None → (b ≡ false) × (first_wrong rest ≡ None)
unfolding first_wrong
right_field o b rest e = chosen_none b o (first_wrong rest) e

pub right_parts : (xs ys : List (ℕ × Bool)) → first_wrong (xs ++ ys) ≡ None → (first_wrong xs ≡ None) × (first_wrong ys ≡ None)
unfolding first_wrong
right_parts [] ys e = (refl, e)
right_parts (x ∷ xs) ys e =
    let here = chosen_none x.1 x.0 (first_wrong (xs ++ ys)) e in
    let rest = right_parts xs ys here.1 in
    (rw here.0 rest.0, rest.1)

-- the row of a known number tells the length
pub whole_is : (rows : List Kind) (bytes : List ℕ) (p : Passed rows bytes) (n : ℕ) (want : Kind) → at bytes 0 ≡ n → row_of n rows ≡ Some want → length bytes ≡ whole_length want bytes
whole_is rows bytes p n want e f =
    let found : row_of n rows ≡ Some p.kind = subst (λ k. row_of k rows ≡ Some p.kind) e p.message.found in
    let one : p.kind ≡ want = cc in
    subst (λ (it : Kind). length bytes ≡ whole_length it bytes) one p.message.whole

pub right_by : (rows : List Kind) (bytes : List ℕ) (p : Passed rows bytes) (n : ℕ) → at bytes 0 ≡ n → first_wrong (fields_by n bytes) ≡ None
right_by rows bytes p n e = subst (λ k. first_wrong (fields_by k bytes) ≡ None) e p.right

pub one_byte : (n : ℕ) (bytes : List ℕ) → big_number 1 (drop n bytes) ≡ at bytes n
one_byte n bytes =
    let e : n + 0 ≡ n = omega arith in
    omega (arith, get_or-drop n bytes 0 0 ∙ ap (at bytes) e)
