use Rattle.std.proofs.Common.{refl}
use Rattle.path_code.specs.Codes.{steps}
use Rattle.path_code.proofs.codes.root.Goals as goal

pub returns-clause-empty : goal.returns-clause-empty
unfolding steps
returns-clause-empty c = refl
