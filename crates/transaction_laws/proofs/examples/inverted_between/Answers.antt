use Rattle.transaction_laws.proofs.Computed.{inverted_between}
use Rattle.transaction_laws.proofs.examples.inverted_between.Goals as goal

pub returns : goal.returns
returns c = inverted_between
