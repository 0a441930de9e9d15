-- The constants of a statement, one by one.
use Rattle.std.proofs.Common.{◌≡◌, refl, sym, ap, ◌∙◌, ℕ, zero, suc, ◌+◌, ◌-◌, ◌*◌, ◌%◌, ◌<◌, ◌≤◌, List, [], ◌∷◌, ◌++◌, map, drop, length, get_or, Option, Some, None, inl, inr, arith}
use Rattle.std.proofs.lemmas.Bool.{cases_lt}
use Rattle.std.proofs.lemmas.List.{at_drop_more, at_drop_all, drop_all}
use Rattle.mope_base.specs.declared.numbers.ColNo.{ColNo}
use Rattle.sql_text.specs.declared.Test.{Test}
use Rattle.sql_text.specs.declared.Test.TheVariants as test
use Rattle.proxy.specs.Standing.{first_of}
use Rattle.proxy.specs.Tasks.{constants_in, constants_with, constants_all, values_from, column_at}
use Rattle.proxy.proofs.ListLemmas.{first_of-past, first_of-mapped, drop-mapped}

pub value-found : (place : ℕ) (xs : List ℕ) (i : ℕ) → i < length xs
    → first_of (drop i (values_from place xs)) ≡ Some (column_at (place + i), get_or xs i 0)
unfolding first_of values_from
value-found place [] i within = absurd (omega arith)
value-found place (x ∷ xs) zero within = let e : place + 0 ≡ place = omega arith in rw e refl
value-found place (x ∷ xs) (suc i) within =
    let e : place + suc i ≡ suc place + i = omega arith in rw e (value-found (suc place) xs i (omega arith))

length-values_from : (place : ℕ) (xs : List ℕ) → length (values_from place xs) ≡ length xs
unfolding values_from
length-values_from place [] = refl
length-values_from place (x ∷ xs) = ap suc (length-values_from (suc place) xs)

pub value-none : (xs : List ℕ) (i : ℕ) → length xs ≤ i → first_of (drop i (values_from 0 xs)) ≡ None
value-none xs i past = first_of-past (values_from 0 xs) i (omega (arith, length-values_from 0 xs))

length-constants_in : (t : Test) → length (constants_in t) ≤ 2
unfolding constants_in
length-constants_in (test.Eq c) = omega arith
length-constants_in (test.Lt c) = omega arith
length-constants_in (test.Le c) = omega arith
length-constants_in (test.Gt c) = omega arith
length-constants_in (test.Ge c) = omega arith
length-constants_in (test.Between low high) = omega arith

pub constant-none : (t : Test) (i : ℕ) → 2 ≤ i → first_of (drop i (constants_in t)) ≡ None
constant-none t i past = first_of-past (constants_in t) i (omega (arith, length-constants_in t))

-- a test has two constants at most
pub constant-few : (t : Test) (i c : ℕ) → Some c ≡ first_of (drop i (constants_in t)) → i ≤ 1
constant-few t i c here =
    elim (cases_lt i 2) [
      | inl low ↦ omega (arith, low)
      | inr high ↦ absurd (let e : Some c ≡ None = here ∙ constant-none t i high in cc)
    ]

pub length-constant : (t : Test) → length (constants_in t) ≤ 2
length-constant t = length-constants_in t

all-step : (tests : List (ColNo × Test)) (i left : ℕ) (d : ColNo × Test) → i < length tests
    → drop left (constants_all (drop i tests)) ≡ drop left (constants_with (get_or tests i d) ++ constants_all (drop (i + 1) tests))
unfolding constants_all
all-step tests i left d within = at_drop_more (λ l. drop left (constants_all l)) tests i d within

-- the constant of the condition that is read
pub condition-found : (tests : List (ColNo × Test)) (i left index : ℕ) (d : ColNo × Test) (c : ℕ) → i < length tests
    → drop index (constants_all tests) ≡ drop left (constants_all (drop i tests))
    → Some c ≡ first_of (drop left (constants_in (get_or tests i d).1))
    → Some ((get_or tests i d).0, c) ≡ first_of (drop index (constants_all tests))
unfolding constants_with
condition-found tests i left index d c within same here =
    sym (first_of-mapped (λ (x : ℕ). ((get_or tests i d).0, x)) (constants_in (get_or tests i d).1) (constants_all (drop (i + 1) tests)) left c (sym here))
    ∙ ap first_of (sym (same ∙ all-step tests i left d within))

-- it has no further one: the next condition is read
pub condition-past : (tests : List (ColNo × Test)) (i left index : ℕ) (d : ColNo × Test) → i < length tests
    → drop index (constants_all tests) ≡ drop left (constants_all (drop i tests))
    → None ≡ first_of (drop left (constants_in (get_or tests i d).1))
    → (length (constants_in (get_or tests i d).1) ≤ left)
    × (drop index (constants_all tests) ≡ drop (left - length (constants_in (get_or tests i d).1)) (constants_all (drop (i + 1) tests)))
unfolding constants_with
condition-past tests i left index d within same none =
    let past = drop-mapped (λ (x : ℕ). ((get_or tests i d).0, x)) (constants_in (get_or tests i d).1) (constants_all (drop (i + 1) tests)) left (sym none) in
    (past.0, same ∙ all-step tests i left d within ∙ past.1)

pub condition-none : (tests : List (ColNo × Test)) (i left index : ℕ) → length tests ≤ i
    → drop index (constants_all tests) ≡ drop left (constants_all (drop i tests)) → None ≡ first_of (drop index (constants_all tests))
unfolding constants_all first_of
condition-none tests i left index past same =
    sym (ap first_of (same ∙ at_drop_all (λ l. drop left (constants_all l)) tests i past ∙ drop_all left [] (omega arith)))
