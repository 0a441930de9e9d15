use Rattle.versions.proofs.Computed.{rebuilds}
use Rattle.versions.proofs.examples.rebuild_on_depth.Goals as goal

pub returns : goal.returns
returns c = rebuilds
