use Rattle.std.proofs.Common.{◌≡◌, ◌+◌, ◌*◌, ◌≤◌, drop}
use Rattle.proxy.specs.Tasks.{constants_all}
use Rattle.proxy.proofs.constants.condition_constant.Given as goal

abbrev pub invariant-tests : goal.invariant-tests
invariant-tests l = record { same : drop l.index (constants_all l.tests) ≡ drop l.left (constants_all (drop l.i l.tests)); near : l.index ≤ l.left + 2 * l.i }
