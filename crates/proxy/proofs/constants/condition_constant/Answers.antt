use Rattle.std.proofs.Common.{◌≡◌, ◌≤◌, ◌∙◌, ◌+◌, ap, sym, length, drop, ◌-◌, ℕ, get_or, arith}
use Rattle.sql_text.specs.declared.Test.TheVariants as test
use Rattle.proxy.specs.Tasks.{constants_all}
use Rattle.proxy.proofs.ConstantLemmas.{condition-found, condition-past, condition-none, constant-few, length-constant}
use Rattle.proxy.proofs.constants.condition_constant.Goals as goal

pub returns-in-Some-clause-is : goal.returns-in-Some-clause-is
returns-in-Some-clause-is c =
    condition-found c.args.tests.now c.tests.i c.tests.left c.args.index (record { 0 = 0 }, test.Eq 0) c.in-Some.constant c.tests-test.true
    c.tests.invariant.same c.in-Some.ensures

pub returns-in-Some-clause-within : goal.returns-in-Some-clause-within
returns-in-Some-clause-within c =
    let few = constant-few _ c.tests.left c.in-Some.constant c.in-Some.ensures in omega (arith, few)

pub overflow_sub-left : goal.overflow_sub-left
overflow_sub-left c =
    let past = condition-past c.args.tests.now c.tests.i c.tests.left c.args.index (record { 0 = 0 }, test.Eq 0) c.tests-test.true
    c.tests.invariant.same c.in-None.ensures in
    omega (arith, past.0, c.constant_count-left.ensures)

pub tests-preserved : goal.tests-preserved
tests-preserved c =
    let past = condition-past c.args.tests.now c.tests.i c.tests.left c.args.index (record { 0 = 0 }, test.Eq 0) c.tests-test.true
    c.tests.invariant.same c.in-None.ensures in
    record {
      same = past.1 ∙ ap (λ n. drop (c.tests.left - n) (constants_all (drop (c.tests.i + 1) c.args.tests.now))) (sym c.constant_count-left.ensures);
      near = omega (arith, past.0, c.constant_count-left.ensures, length-constant (get_or c.args.tests.now c.tests.i (record { 0 = 0 }, test.Eq 0)).1, c.tests.invariant.near);
    }

pub returns-clause-is : goal.returns-clause-is
returns-clause-is c = condition-none c.args.tests.now c.tests.i c.tests.left c.args.index c.tests-test.false c.tests.invariant.same
