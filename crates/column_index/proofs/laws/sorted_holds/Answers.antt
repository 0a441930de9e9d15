use Rattle.column_index.proofs.Sorting.{holds-sorted}
use Rattle.column_index.proofs.laws.sorted_holds.Goals as goal

pub returns : goal.returns
returns c = holds-sorted
