use Rattle.transaction_laws.proofs.Computed.{meets_full}
use Rattle.transaction_laws.proofs.examples.full_table.Goals as goal

pub returns : goal.returns
returns c = meets_full
