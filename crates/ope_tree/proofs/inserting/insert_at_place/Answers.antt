use Rattle.std.proofs.Common.{subst}
use Rattle.tree_model.specs.declared.Place.{Place}
use Rattle.tree_model.specs.Trees.{IsPlaceOf, size}
use Rattle.ope_tree.specs.Nodes.{tree_of}
use Rattle.ope_tree.proofs.inserting.insert_at_place.Goals as goal

pub raise_count-requires-clause-is_rank : goal.raise_count-requires-clause-is_rank
unfolding IsPlaceOf
raise_count-requires-clause-is_rank c =
    let P : Place → Type 0 = λ p. IsPlaceOf (size (tree_of c.args.nodes.now c.args.shape.root)) p in
    subst P c.in-Found.is c.requires.is_place

pub insert_at_gap-requires-clause-is_rank : goal.insert_at_gap-requires-clause-is_rank
unfolding IsPlaceOf
insert_at_gap-requires-clause-is_rank c =
    let P : Place → Type 0 = λ p. IsPlaceOf (size (tree_of c.args.nodes.now c.args.shape.root)) p in
    subst P c.in-Gap.is c.requires.is_place
