use Rattle.transaction_laws.proofs.Computed.{example_view}
use Rattle.transaction_laws.proofs.examples.example_view.Goals as goal

pub returns : goal.returns
returns c = example_view
