use Rattle.transaction_laws.proofs.Querying.{query_meets}
use Rattle.transaction_laws.proofs.laws.query_meets.Goals as goal

pub returns : goal.returns
returns c = query_meets
