use Rattle.run_laws.proofs.Computed.{rebuild_under_a_walk}
use Rattle.run_laws.proofs.examples.rebuild_under_a_walk.Goals as goal

pub returns : goal.returns
returns c = rebuild_under_a_walk
