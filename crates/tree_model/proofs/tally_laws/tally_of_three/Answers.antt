use Rattle.std.proofs.Common.{refl}
use Rattle.tree_model.specs.Places.{one_if}
use Rattle.tree_model.specs.Tallies.{tally}
use Rattle.tree_model.proofs.tally_laws.tally_of_three.Goals as goal

pub returns : goal.returns
unfolding one_if tally
returns c = refl
