use Rattle.run_laws.proofs.Computed.{rollback}
use Rattle.run_laws.proofs.examples.rollback.Goals as goal

pub returns : goal.returns
returns c = rollback
