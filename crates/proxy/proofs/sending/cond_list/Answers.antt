use Rattle.std.proofs.Common.{rules, arith}
use Rattle.std.proofs.lemmas.Grind.{common_steps}
use Rattle.proxy.specs.Tasks.{cond_bytes}
use Rattle.proxy.proofs.sending.cond_list.Goals as goal

pub tests-preserved : goal.tests-preserved
unfolding cond_bytes
tests-preserved c = grind (arith, common_steps)
