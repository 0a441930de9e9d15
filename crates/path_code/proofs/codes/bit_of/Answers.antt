use Rattle.std.proofs.Common.{sym, ap}
use Rattle.path_code.specs.Codes.{bit}
use Rattle.path_code.proofs.codes.bit_of.Goals as goal

pub returns-in-Left : goal.returns-in-Left
unfolding bit
returns-in-Left c = sym (ap bit c.in-Left.is)

pub returns-in-Right : goal.returns-in-Right
unfolding bit
returns-in-Right c = sym (ap bit c.in-Right.is)
