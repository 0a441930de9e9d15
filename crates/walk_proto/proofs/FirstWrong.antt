-- The first wrong field of a table in parts.
use Rattle.std.proofs.Common.{◌≡◌, ◌≢◌, ◌≤◌, ◌+◌, ℕ, Bool, true, false, List, [], ◌∷◌, ◌++◌, length, drop, Option, None, Some, refl, arith}
use Rattle.std.proofs.lemmas.Bool.Decides.{nat_tests}
use Rattle.std.specs.Bool.{if◌then◌else◌}
use Rattle.walk_proto.specs.Faults.{at, first_wrong, fields_by, op_fields}
use Rattle.walk_proto.specs.Rules.{is_wrong_op}

chosen_first : (b : Bool) (o offset : ℕ) (rest all : Option ℕ) → (if b then Some o else rest) ≡ Some offset → (rest ≡ Some offset → all ≡ Some offset) → (if b then Some o else all) ≡ Some offset
chosen_first true o offset rest all e f = e
chosen_first false o offset rest all e f = f e

pub found_first : (xs ys : List (ℕ × Bool)) (offset : ℕ) → first_wrong xs ≡ Some offset → first_wrong (xs ++ ys) ≡ Some offset
unfolding first_wrong
found_first [] ys offset e = absurd (cc)
found_first (x ∷ xs) ys offset e = chosen_first x.1 x.0 offset (first_wrong xs) (first_wrong (xs ++ ys)) e (found_first xs ys offset)

chosen_next : (b : Bool) (o : ℕ) (rest all last : Option ℕ) → (if b then Some o else rest) ≡ None → (rest ≡ None → all ≡ last) → (if b then Some o else all) ≡ last
chosen_next true o rest all last e f = absurd (cc)
chosen_next false o rest all last e f = f e

pub found_later : (xs ys : List (ℕ × Bool)) → first_wrong xs ≡ None → first_wrong (xs ++ ys) ≡ first_wrong ys
unfolding first_wrong
found_later [] ys e = refl
found_later (x ∷ xs) ys e = chosen_next x.1 x.0 (first_wrong xs) (first_wrong (xs ++ ys)) (first_wrong ys) e (found_later xs ys)

-- a table whose fields are all right
pub right7 : (a b c d e f g : Bool) (i j k l m n o : ℕ) → a ≡ false → b ≡ false → c ≡ false → d ≡ false → e ≡ false → f ≡ false → g ≡ false
    → first_wrong ((i, a) ∷ (j, b) ∷ (k, c) ∷ (l, d) ∷ (m, e) ∷ (n, f) ∷ (o, g) ∷ []) ≡ None
unfolding first_wrong
right7 a b c d e f g i j k l m n o ea eb ec ed ee ef eg = rw (ea, eb, ec, ed, ee, ef, eg) refl

pub op_step : (offset : ℕ) (b : List ℕ) → 2 ≤ length b → first_wrong (op_fields offset b) ≡ (if is_wrong_op (at b 1) then Some (offset + 1) else first_wrong (op_fields (offset + 2) (drop 2 b)))
unfolding first_wrong op_fields
op_step offset [] h = absurd (omega arith)
op_step offset (x ∷ []) h = absurd (omega arith)
op_step offset (x ∷ y ∷ b) h = refl

pub other_fields : (n : ℕ) (b : List ℕ) → n ≢ 3 → n ≢ 5 → n ≢ 6 → n ≢ 7 → n ≢ 11 → n ≢ 13 → n ≢ 14 → fields_by n b ≡ []
unfolding fields_by
other_fields n b h3 h5 h6 h7 h11 h13 h14 = grind (arith, nat_tests)
