use Rattle.transaction_laws.proofs.Ending.{install_meets}
use Rattle.transaction_laws.proofs.laws.install_meets.Goals as goal

pub returns : goal.returns
returns c = install_meets
