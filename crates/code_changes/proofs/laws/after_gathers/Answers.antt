use Rattle.code_changes.proofs.After.{after_gathers}
use Rattle.code_changes.proofs.laws.after_gathers.Goals as goal

pub returns : goal.returns
returns c = after_gathers
