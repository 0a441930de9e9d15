use Rattle.std.proofs.Common.{◌≡◌, ℕ, true, false, refl, arith, eq-eqb, ne_eqb}
use Rattle.sql_plan.specs.Bounds.{test_by, ends_above, ends_of, bound_of}
use Rattle.sql_plan.proofs.ends.bound.Goals as goal

pub returns-in-0 : goal.returns-in-0
unfolding test_by ends_of bound_of
returns-in-0 c = rw c.in-0.is refl

pub returns-in-1 : goal.returns-in-1
unfolding test_by ends_of bound_of
returns-in-1 c = rw c.in-1.is refl

pub returns-in-2 : goal.returns-in-2
unfolding test_by ends_of bound_of
returns-in-2 c = rw c.in-2.is refl

pub returns-in-3 : goal.returns-in-3
unfolding test_by ends_of bound_of ends_above
returns-in-3 c = rw (c.in-3.is, eq-eqb c.args.first 18446744073709551615 c.if-first-eq18446744073709551615.true) refl

pub returns-in-3-2 : goal.returns-in-3-2
unfolding test_by ends_of bound_of ends_above
returns-in-3-2 c = rw (c.in-3.is, ne_eqb c.args.first 18446744073709551615 c.if-first-eq18446744073709551615.false) refl

pub returns-in-4 : goal.returns-in-4
unfolding test_by ends_of bound_of
returns-in-4 c = rw c.in-4.is refl

pub returns-in_default : goal.returns-in_default
unfolding test_by ends_of bound_of
returns-in_default c = let five : c.args.op ≡ 5 = omega arith in rw five refl
