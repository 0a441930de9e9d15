use Rattle.column_index.proofs.Sorting.{puts_commute}
use Rattle.column_index.proofs.laws.puts_commute.Goals as goal

pub returns : goal.returns
returns c = puts_commute
