use Rattle.code_changes.proofs.Pairs.{remapped}
use Rattle.code_changes.proofs.laws.remapped.Goals as goal

pub returns : goal.returns
returns c = remapped
