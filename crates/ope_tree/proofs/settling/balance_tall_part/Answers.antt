use Rattle.std.proofs.Common.{ℕ, take, subst}
use Rattle.tree_model.specs.declared.Place.TheVariants.{Found}
use Rattle.tree_model.specs.Trees.{path}
use Rattle.tree_model.specs.Insertion.{balanced_at, scapegoat_way}
use Rattle.ope_tree.specs.Built.{IsBuilt}
use Rattle.ope_tree.specs.Nodes.{tree_of}
use Rattle.ope_tree.specs.Settling.{IsMovedIn, tall_depth}
use Rattle.ope_tree.proofs.settling.balance_tall_part.Goals as goal

pub returns-clause-built : goal.returns-clause-built
unfolding scapegoat_way tall_depth
returns-clause-built c =
    let t = tree_of c.args.nodes.now c.args.link in
    let P : ℕ → Type 0 = λ d. IsBuilt c.args.nodes.now c.balance_below.new.nodes c.in_ok-rebuilt.rebuilt.root (balanced_at (take d (path t (Found c.args.rank))) t) in
    subst P c.in_ok-depth.ensures c.in_ok-rebuilt.ensures.built

pub returns-clause-codes : goal.returns-clause-codes
unfolding scapegoat_way tall_depth
returns-clause-codes c =
    let t = tree_of c.args.nodes.now c.args.link in
    let P : ℕ → Type 0 = λ d. IsMovedIn t (take d (path t (Found c.args.rank))) c.args.rank c.in_ok-rebuilt.rebuilt.moved.items c.in_ok-rebuilt.rebuilt.added in
    subst P c.in_ok-depth.ensures c.in_ok-rebuilt.ensures.codes
