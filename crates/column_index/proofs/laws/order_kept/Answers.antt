use Rattle.column_index.proofs.Recodings.{keeps_order}
use Rattle.column_index.proofs.laws.order_kept.Goals as goal

pub returns : goal.returns
returns c = keeps_order
