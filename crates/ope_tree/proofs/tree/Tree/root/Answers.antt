use Rattle.std.proofs.Common.{◌≤◌, [], refl, subst}
use Rattle.tree_model.specs.Trees.{height}
use Rattle.tree_model.specs.Insertion.{tree_at}
use Rattle.ope_tree.specs.Seen.{Seen}
use Rattle.ope_tree.specs.Standing.{StandsAt}
use Rattle.ope_tree.proofs.Sound.{sound_short}
use Rattle.ope_tree.proofs.Stopping.{stands}
use Rattle.ope_tree.proofs.tree.Tree.root.Goals as goal

pub returns-clause-stops : goal.returns-clause-stops
unfolding tree_at
returns-clause-stops c =
    let t = c.self.inside in
    let P : Seen → Type 0 = λ seen. StandsAt seen [] c.stop_of.result in
    subst P c.self.view_is (stands t.nodes t.shape.root t.shape.most t.spent [] t.shape.root c.stop_of.result refl refl c.self.invariant.is_link c.stop_of.ensures)

pub returns-clause-short : goal.returns-clause-short
returns-clause-short c =
    let P : Seen → Type 0 = λ seen. height seen.column.tree ≤ 63 in
    subst P c.self.view_is (sound_short c.self.inside.nodes c.self.inside.shape.root c.self.inside.shape.alive c.self.inside.shape.most c.self.inside.spent c.self.invariant)
