use Rattle.std.proofs.Common.{sym, arith}
use Rattle.proxy.proofs.ConstantLemmas.{constant-none}
use Rattle.proxy.proofs.constants.test_constant.Goals as goal

pub returns-in_default : goal.returns-in_default
returns-in_default c = sym (constant-none c.args.test c.args.index (omega (arith, c.in_default)))
