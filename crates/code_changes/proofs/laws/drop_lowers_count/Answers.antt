use Rattle.code_changes.proofs.Staying.{drop_lowers_count}
use Rattle.code_changes.proofs.laws.drop_lowers_count.Goals as goal

pub returns : goal.returns
returns g c = drop_lowers_count
