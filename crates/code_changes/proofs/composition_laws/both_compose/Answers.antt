use Rattle.code_changes.proofs.Both.{both_compose}
use Rattle.code_changes.proofs.composition_laws.both_compose.Goals as goal

pub returns : goal.returns
returns c = both_compose
