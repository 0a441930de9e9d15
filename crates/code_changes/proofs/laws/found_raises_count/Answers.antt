use Rattle.code_changes.proofs.Staying.{found_raises_count}
use Rattle.code_changes.proofs.laws.found_raises_count.Goals as goal

pub returns : goal.returns
returns g c = found_raises_count
