use Rattle.tree_model.proofs.Ways.{length-path, height_reached}
use Rattle.tree_model.proofs.laws.height_is_longest_way.Goals as goal

pub returns : goal.returns
returns g c t =
    let gap = height_reached t in
    record { none_longer = length-path t; reached_at = gap.0; within = gap.1; reached = gap.2 }
