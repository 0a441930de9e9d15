use Rattle.std.proofs.Common.{List, reverse, subst, sym}
use Rattle.ope_tree.specs.declared.nodes.Node.{Node}
use Rattle.ope_tree.specs.Nodes.{Fits}
use Rattle.ope_tree.proofs.arena.Arena.new.Goals as goal

pub invariant_of-result : goal.invariant_of-result
unfolding Fits
invariant_of-result c =
    let P : List Node → Type 0 = λ nodes. Fits (reverse nodes) in
    subst P (sym c.new.ensures) tt
