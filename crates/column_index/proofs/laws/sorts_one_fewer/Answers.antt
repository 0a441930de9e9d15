use Rattle.column_index.proofs.Sorting.{sorted-fewer}
use Rattle.column_index.proofs.laws.sorts_one_fewer.Goals as goal

pub returns : goal.returns
returns c = sorted-fewer
