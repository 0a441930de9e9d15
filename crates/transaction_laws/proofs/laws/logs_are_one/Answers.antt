use Rattle.transaction_laws.proofs.OneLog.{logs_one}
use Rattle.transaction_laws.proofs.laws.logs_are_one.Goals as goal

pub returns : goal.returns
returns c = logs_one
