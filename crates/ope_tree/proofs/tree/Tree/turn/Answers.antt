use Rattle.std.proofs.Common.{◌++◌, [], ◌∷◌, ℕ, ap, sym, subst}
use Rattle.tree_model.specs.declared.Side.{Side}
use Rattle.tree_model.specs.declared.Side.TheVariants.{Left, Right}
use Rattle.tree_model.specs.Trees.{Tree}
use Rattle.tree_model.specs.Items.{Item}
use Rattle.tree_model.specs.Insertion.{child}
use Rattle.mope_base.specs.declared.body.Body.{Body}
use Rattle.ope_tree.specs.Seen.{Seen}
use Rattle.ope_tree.specs.Standing.{IsNamed, StandsAt}
use Rattle.ope_tree.proofs.Stopping.{named_within, turned}
use Rattle.ope_tree.proofs.tree.Tree.turn.Goals as goal

pub get-node-requires : goal.get-node-requires
get-node-requires c =
    let t = c.self.inside in
    let way = c.requires.0 in
    let P : Seen → Type 0 = λ seen. IsNamed seen way c.args.at.0 in
    named_within t.nodes t.shape.root way c.args.at.0 (subst P (sym c.self.view_is) c.requires.1)

pub returns-in-Left : goal.returns-in-Left
unfolding child
returns-in-Left c = λ way named.
    let t = c.self.inside in
    let at = c.args.at.0 in
    let n = c.get-node.result in
    let stop = c.stop_of.result in
    let P : Seen → Type 0 = λ seen. IsNamed seen way at in
    let Q : Seen → Type 0 = λ seen. StandsAt seen (way ++ Left ∷ []) stop in
    let R : Side → Type 0 = λ side. StandsAt c.args.self.now (way ++ side ∷ []) stop in
    let here = turned t.nodes t.shape.root t.shape.most t.spent way Left at n.left stop (subst P (sym c.self.view_is) named)
    (ap (λ (u : Tree ℕ). child Left u) c.get-node.ensures.names) (ap (λ (u : Tree (Item Body)). child Left u) c.get-node.ensures.tree) c.get-node.ensures.left c.stop_of.ensures in
    subst R (sym c.in-Left.is) (subst Q c.self.view_is here)

pub returns-in-Right : goal.returns-in-Right
unfolding child
returns-in-Right c = λ way named.
    let t = c.self.inside in
    let at = c.args.at.0 in
    let n = c.get-node.result in
    let stop = c.stop_of-in-Right.result in
    let P : Seen → Type 0 = λ seen. IsNamed seen way at in
    let Q : Seen → Type 0 = λ seen. StandsAt seen (way ++ Right ∷ []) stop in
    let R : Side → Type 0 = λ side. StandsAt c.args.self.now (way ++ side ∷ []) stop in
    let here = turned t.nodes t.shape.root t.shape.most t.spent way Right at n.right stop (subst P (sym c.self.view_is) named)
    (ap (λ (u : Tree ℕ). child Right u) c.get-node.ensures.names) (ap (λ (u : Tree (Item Body)). child Right u) c.get-node.ensures.tree) c.get-node.ensures.right c.stop_of-in-Right.ensures in
    subst R (sym c.in-Right.is) (subst Q c.self.view_is here)
