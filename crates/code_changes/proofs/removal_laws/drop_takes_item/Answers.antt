use Rattle.code_changes.proofs.Removing.{drop_takes_item}
use Rattle.code_changes.proofs.removal_laws.drop_takes_item.Goals as goal

pub returns : goal.returns
returns g c = drop_takes_item
