use Rattle.code_changes.proofs.Both.{both_normal}
use Rattle.code_changes.proofs.composition_laws.both_are_normal.Goals as goal

pub returns : goal.returns
returns c = both_normal
