use Rattle.transaction_laws.proofs.Reading.{messages_are_readable}
use Rattle.transaction_laws.proofs.laws.messages_are_readable.Goals as goal

pub returns : goal.returns
returns c = messages_are_readable
