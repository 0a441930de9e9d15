use Rattle.transaction_laws.proofs.Computed.{deletes_two}
use Rattle.transaction_laws.proofs.examples.deletes_two.Goals as goal

pub returns : goal.returns
returns c = deletes_two
