use Rattle.transaction_laws.proofs.Computed.{walks_over_deleted}
use Rattle.transaction_laws.proofs.examples.walks_over_deleted.Goals as goal

pub returns : goal.returns
returns c = walks_over_deleted
