use Rattle.transaction_laws.proofs.Reading.{allowed_is_readable}
use Rattle.transaction_laws.proofs.laws.allowed_is_readable.Goals as goal

pub returns : goal.returns
returns c = allowed_is_readable
