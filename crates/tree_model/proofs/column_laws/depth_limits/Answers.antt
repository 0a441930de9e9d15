use Rattle.std.proofs.Common.{refl}
use Rattle.tree_model.specs.Balance.{may_stand, climbed, climb, limit}
use Rattle.tree_model.proofs.column_laws.depth_limits.Goals as goal

pub returns : goal.returns
unfolding may_stand climbed climb limit
returns c = refl
