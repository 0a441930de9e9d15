use Rattle.std.proofs.Common.{ℕ, ◌+◌, ap, ◌∙◌, sym, subst, arith}
use Rattle.mope_base.specs.declared.body.Body.{Body}
use Rattle.tree_model.specs.Trees.{size}
use Rattle.tree_model.specs.Items.{Item}
use Rattle.tree_model.proofs.GraftPaths.{size-node}
use Rattle.ope_tree.specs.Cursors.{IsCursorAt, IsRankAt}
use Rattle.ope_tree.specs.Nodes.{item_of, tree_of}
use Rattle.ope_tree.specs.Seen.{Seen}
use Rattle.ope_tree.proofs.Advancing.{cursor-few, ranked}
use Rattle.ope_tree.proofs.Stopping.{named_within}
use Rattle.ope_tree.proofs.tree.Tree.rank.Goals as goal

pub get-node-requires : goal.get-node-requires
get-node-requires c =
    let t = c.self.inside in
    let way = c.requires.0 in
    let P : Seen → Type 0 = λ seen. IsCursorAt seen way c.args.cursor in
    let is = subst P (sym c.self.view_is) c.requires.1 in
    named_within t.nodes t.shape.root way c.args.cursor.at.0 is.named

pub overflow_add-result : goal.overflow_add-result
overflow_add-result c =
    let t = c.self.inside in
    let n = c.get-node.result in
    let way = c.requires.0 in
    let P : Seen → Type 0 = λ seen. IsCursorAt seen way c.args.cursor in
    let few = cursor-few t.nodes t.shape.root t.shape.alive t.shape.most t.spent way c.args.cursor c.self.invariant (subst P (sym c.self.view_is) c.requires.1) in
    let many = ap size c.get-node.ensures.tree ∙ size-node (tree_of t.nodes n.left) (item_of n.entry) (tree_of t.nodes n.right) in
    omega (arith, few, many, c.get-node.ensures.before_is)

pub returns : goal.returns
returns c = λ way is.
    let t = c.self.inside in
    let n = c.get-node.result in
    let P : Seen → Type 0 = λ seen. IsCursorAt seen way c.args.cursor in
    let Q : Seen → Type 0 = λ seen. IsRankAt (Item Body) seen.column.tree way (c.args.cursor.before + n.before) in
    subst Q c.self.view_is (ranked t.nodes t.shape.root t.shape.most t.spent way c.args.cursor n (c.args.cursor.before + n.before) (subst P (sym c.self.view_is) is) c.get-node.ensures (ap (λ (k : ℕ). c.args.cursor.before + k) c.get-node.ensures.before_is))
