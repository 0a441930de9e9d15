use Rattle.run_laws.proofs.Computed.{twin_forgets}
use Rattle.run_laws.proofs.examples.twin_forgets.Goals as goal

pub returns : goal.returns
returns c = twin_forgets
