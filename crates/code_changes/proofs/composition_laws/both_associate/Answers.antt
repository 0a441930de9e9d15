use Rattle.code_changes.proofs.Neutral.{both_associate}
use Rattle.code_changes.proofs.composition_laws.both_associate.Goals as goal

pub returns : goal.returns
returns c = both_associate
