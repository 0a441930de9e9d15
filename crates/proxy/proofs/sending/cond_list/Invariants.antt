use Rattle.std.proofs.Common.{◌≡◌, map, take}
use Rattle.proxy.specs.Tasks.{cond_bytes}
use Rattle.proxy.proofs.sending.cond_list.Given as goal

abbrev pub invariant-tests : goal.invariant-tests
invariant-tests l = l.conds.items ≡ map cond_bytes (take l.i l.tests)
