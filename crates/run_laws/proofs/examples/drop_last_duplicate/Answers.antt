use Rattle.run_laws.proofs.Computed.{drop_last_duplicate}
use Rattle.run_laws.proofs.examples.drop_last_duplicate.Goals as goal

pub returns : goal.returns
returns c = drop_last_duplicate
