use Rattle.versions.proofs.Computed.{drops_last}
use Rattle.versions.proofs.examples.drop_last_duplicate.Goals as goal

pub returns : goal.returns
returns c = drops_last
