use Rattle.run_laws.proofs.Computed.{stale_rebuild}
use Rattle.run_laws.proofs.examples.stale_rebuild.Goals as goal

pub returns : goal.returns
returns c = stale_rebuild
