use Rattle.std.proofs.Common.{◌≤◌, subst}
use Rattle.tree_model.specs.Trees.{height}
use Rattle.ope_tree.specs.Seen.{Seen}
use Rattle.ope_tree.proofs.Sound.{sound_short}
use Rattle.ope_tree.proofs.tree.Tree.len.Goals as goal

pub returns-clause-short : goal.returns-clause-short
returns-clause-short c =
    let P : Seen → Type 0 = λ seen. height seen.column.tree ≤ 63 in
    subst P c.self.view_is (sound_short c.self.inside.nodes c.self.inside.shape.root c.self.inside.shape.alive c.self.inside.shape.most c.self.inside.spent c.self.invariant)
