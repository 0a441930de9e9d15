use Rattle.code_changes.proofs.Told.{told}
use Rattle.code_changes.proofs.composition_laws.normal_is_told.Goals as goal

pub returns : goal.returns
returns c = told
