use Rattle.column_index.proofs.Recodings.{sorted-recoded}
use Rattle.column_index.proofs.laws.sorts_recoded.Goals as goal

pub returns : goal.returns
returns c = sorted-recoded
