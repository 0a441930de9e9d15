use Rattle.std.proofs.Common.{◌≡◌, take, ap, ◌∙◌, sym}
use Rattle.tree_model.specs.declared.Place.TheVariants.{Found}
use Rattle.tree_model.specs.Trees.{Tree, balanced, inorder, path, size}
use Rattle.tree_model.specs.Items.{Item}
use Rattle.tree_model.specs.Insertion.{tree_at, put_at, balanced_at}
use Rattle.mope_base.specs.declared.body.Body.{Body}
use Rattle.ope_tree.specs.Nodes.{item_of, tree_of}
use Rattle.ope_tree.proofs.Builders.{built_same, built_after}
use Rattle.ope_tree.proofs.Links.{IsLink-extended, tree_by-extended}
use Rattle.tree_model.proofs.Halves.{size-balanced}
use Rattle.tree_model.proofs.Ways.{length-inorder}
use Rattle.ope_tree.proofs.settling.balance_below.Goals as goal

pub put_part-requires-clause-link : goal.put_part-requires-clause-link
put_part-requires-clause-link c = IsLink-extended c.args.nodes.now c.balance_part.new.nodes c.args.link c.in_ok-balanced.ensures.built.extends c.requires.link

pub put_part-requires-clause-same : goal.put_part-requires-clause-same
put_part-requires-clause-same c =
    let old = c.args.nodes.now in
    let mid = c.balance_part.new.nodes in
    let t = tree_of old c.args.link in
    let part = tree_at (take c.args.depth (path t (Found c.args.rank))) t in
    let built = c.in_ok-balanced.ensures.built in
    let same : tree_of mid c.args.link ≡ t = tree_by-extended (λ at n. item_of n.entry) old mid c.args.link built.extends c.requires.link in
    ap size (built.names ∙ ap (λ (u : Tree (Item Body)). balanced (inorder u)) c.part_below-part.ensures.tree)
    ∙ size-balanced (inorder part)
    ∙ length-inorder part
    ∙ ap (λ (u : Tree (Item Body)). size (tree_at (take c.args.depth (path u (Found c.args.rank))) u)) (sym same)

pub returns-clause-built : goal.returns-clause-built
unfolding balanced_at
returns-clause-built c =
    let old = c.args.nodes.now in
    let mid = c.balance_part.new.nodes in
    let t = tree_of old c.args.link in
    let along = take c.args.depth (path t (Found c.args.rank)) in
    let built = c.in_ok-balanced.ensures.built in
    let same : tree_of mid c.args.link ≡ t = tree_by-extended (λ at n. item_of n.entry) old mid c.args.link built.extends c.requires.link in
    let part : tree_of mid c.in_ok-balanced.balanced.root ≡ balanced (inorder (tree_at along t)) = built.names ∙ ap (λ (u : Tree (Item Body)). balanced (inorder u)) c.part_below-part.ensures.tree in
    built_same old c.put_part.new.nodes c.in_ok-root.root (put_at (take c.args.depth (path (tree_of mid c.args.link) (Found c.args.rank))) (tree_of mid c.args.link) (tree_of mid c.in_ok-balanced.balanced.root)) (put_at along t (balanced (inorder (tree_at along t))))
    (ap (λ (u : Tree (Item Body)). put_at (take c.args.depth (path u (Found c.args.rank))) u (tree_of mid c.in_ok-balanced.balanced.root)) same ∙ ap (λ (u : Tree (Item Body)). put_at along t u) part)
    (built_after old mid c.put_part.new.nodes c.in_ok-root.root (put_at (take c.args.depth (path (tree_of mid c.args.link) (Found c.args.rank))) (tree_of mid c.args.link) (tree_of mid c.in_ok-balanced.balanced.root)) built.extends c.in_ok-root.ensures)
