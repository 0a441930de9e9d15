use Rattle.std.proofs.Common.{◌≡◌, Some, None, subst, slice_get}
use Rattle.tree_model.specs.Columns.{items_of}
use Rattle.ope_tree.specs.Conditions.{paired}
use Rattle.ope_tree.specs.Nodes.{item_of}
use Rattle.ope_tree.specs.Seen.{Seen}
use Rattle.ope_tree.proofs.tree.Tree.item.Goals as goal

pub returns-in-None : goal.returns-in-None
unfolding items_of
returns-in-None c =
    let P : Seen → Type 0 = λ seen. slice_get (items_of seen.column) c.args.rank ≡ None in
    subst P c.self.view_is c.in-None.ensures

pub returns-in-Some : goal.returns-in-Some
unfolding items_of item_of
returns-in-Some c =
    let P : Seen → Type 0 = λ seen. slice_get (items_of seen.column) c.args.rank ≡ Some (paired (c.in-Some.entry.body, c.in-Some.entry.count)) in
    subst P c.self.view_is c.in-Some.ensures
