use Rattle.run_laws.proofs.Computed.{rebuild_on_depth}
use Rattle.run_laws.proofs.examples.rebuild_on_depth.Goals as goal

pub returns : goal.returns
returns c = rebuild_on_depth
