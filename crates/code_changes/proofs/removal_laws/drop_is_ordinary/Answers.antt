use Rattle.code_changes.proofs.Removing.{drop_is_ordinary}
use Rattle.code_changes.proofs.removal_laws.drop_is_ordinary.Goals as goal

pub returns : goal.returns
returns g c = drop_is_ordinary
