use Rattle.std.proofs.Common.{◌≡◌, subst}
use Rattle.tree_model.specs.Columns.{items_of}
use Rattle.tree_model.specs.Items.{live}
use Rattle.ope_tree.specs.Seen.{Seen}
use Rattle.ope_tree.proofs.tree.Tree.live.Goals as goal

pub returns : goal.returns
unfolding items_of
returns c =
    let P : Seen → Type 0 = λ seen. c.self.inside.shape.alive ≡ live (items_of seen.column) in
    subst P c.self.view_is c.self.invariant.alive_is
