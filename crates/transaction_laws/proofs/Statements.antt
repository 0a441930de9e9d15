-- The constants of a valid statement: how many they are, and that their columns are there.
use Rattle.std.proofs.Common.{◌≡◌, ℕ, zero, suc, ◌+◌, ◌%◌, ◌<◌, ◌≤◌, List, [], ◌∷◌, ◌++◌, map, length, get_or, refl, ap, subst, arith, length-append}
use Rattle.std.proofs.Math.Nat.{mod-eq_of_lt}
use Rattle.mope_base.specs.Lists.{Each}
use Rattle.mope_base.specs.declared.numbers.TableNo.{TableNo}
use Rattle.mope_base.specs.declared.numbers.ColNo.{ColNo}
use Rattle.sql_text.specs.declared.Test.{Test}
use Rattle.sql_text.specs.declared.Test.TheVariants as test
use Rattle.workload.specs.declared.script.Decl.{Decl}
use Rattle.workload.specs.Validity.{IsValidDecl, column_count, IsValidTest}
use Rattle.proxy.specs.Tasks.{constants_in, constants_with, constants_all, values_from, column_at}

-- ---- a table has at most 8 columns

narrow-at : (tables : List Decl) (i : ℕ) → Each IsValidDecl tables → get_or (map (λ (d : Decl). length d.columns) tables) i 0 ≤ 8
unfolding Each
narrow-at [] i valid = omega arith
narrow-at (d ∷ tables) zero valid = valid.0.few_columns
narrow-at (d ∷ tables) (suc i) valid = narrow-at tables i valid.1

pub few-columns : (tables : List Decl) (t : TableNo) → Each IsValidDecl tables → column_count tables t ≤ 8
unfolding column_count
few-columns tables t valid = narrow-at tables t.0 valid

-- ---- of an INSERT

abbrev pub Within : ℕ → ColNo × ℕ → Type 0
Within width constant = constant.0.0 < width

pub values-within : (from : ℕ) (xs : List ℕ) (width : ℕ) → from + length xs ≤ width → width ≤ 256 → Each (Within width) (values_from from xs)
unfolding values_from column_at Each
values-within from [] width few low = tt
values-within from (x ∷ xs) width few low =
    let same : from % 256 ≡ from = mod-eq_of_lt (omega (arith, few, low)) in
    (omega (arith, same, few), values-within (suc from) xs width (omega (arith, few)) low)

pub values-many : (from : ℕ) (xs : List ℕ) → length (values_from from xs) ≡ length xs
unfolding values_from
values-many from [] = refl
values-many from (x ∷ xs) = ap suc (values-many (suc from) xs)

-- ---- of a statement that asks

few-with : (column : ColNo) (x : Test) → length (constants_with (column, x)) ≤ 2
unfolding constants_with constants_in
few-with column (test.Eq c) = omega arith
few-with column (test.Lt c) = omega arith
few-with column (test.Le c) = omega arith
few-with column (test.Gt c) = omega arith
few-with column (test.Ge c) = omega arith
few-with column (test.Between low high) = omega arith

pub few-constants : (tests : List (ColNo × Test)) → length (constants_all tests) ≤ length tests + length tests
unfolding constants_all
few-constants [] = omega arith
few-constants (condition ∷ tests) =
    omega (arith, length-append (constants_with condition) (constants_all tests), few-with condition.0 condition.1, few-constants tests)

pub each-append : {A : Type 0} (P : A → Type 0) (xs ys : List A) → Each P xs → Each P ys → Each P (xs ++ ys)
unfolding Each
each-append P [] ys first second = second
each-append P (x ∷ xs) ys first second = (first.0, each-append P xs ys first.1 second)

test-within : (width : ℕ) (column : ColNo) (x : Test) → column.0 < width → Each (Within width) (constants_with (column, x))
unfolding constants_with constants_in Each
test-within width column (test.Eq c) lt = (lt, tt)
test-within width column (test.Lt c) lt = (lt, tt)
test-within width column (test.Le c) lt = (lt, tt)
test-within width column (test.Gt c) lt = (lt, tt)
test-within width column (test.Ge c) lt = (lt, tt)
test-within width column (test.Between low high) lt = (lt, (lt, tt))

pub constants-within : (tables : List Decl) (t : TableNo) (width : ℕ) → column_count tables t ≡ width → (tests : List (ColNo × Test)) → Each (IsValidTest tables t) tests → Each (Within width) (constants_all tests)
unfolding constants_all Each
constants-within tables t width count [] valid = tt
constants-within tables t width count (condition ∷ tests) valid =
    each-append (Within width) (constants_with condition) (constants_all tests)
    (test-within width condition.0 condition.1 (subst (λ (n : ℕ). condition.0.0 < n) count valid.0.0)) (constants-within tables t width count tests valid.1)
