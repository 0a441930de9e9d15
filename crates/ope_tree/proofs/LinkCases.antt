-- A link to no tree, and one to a node.
use Rattle.std.proofs.Common.{◌≡◌, ℕ, ◌<◌, List, [], ◌∷◌, length, Option, Some, None, ap, ◌∙◌, subst, inl, inr, arith}
use Rattle.std.proofs.lemmas.Bool.{cases_eq}
use Rattle.mope_base.specs.declared.body.Body.{Body}
use Rattle.tree_model.specs.Items.{Item}
use Rattle.tree_model.specs.Trees.{Tree, leaf, size}
use Rattle.ope_tree.specs.declared.nodes.Node.{Node}
use Rattle.ope_tree.specs.Nodes.{item_of, tree_of, IsLink}
use Rattle.ope_tree.proofs.Builders.{tree_by-none}
use Rattle.ope_tree.proofs.Links.{tree_by-newest, tree_by-older}

pub no_tree : (nodes : List Node) (link : Option ℕ) → link ≡ None → tree_of nodes link ≡ leaf
no_tree nodes link e = ap (λ (l : Option ℕ). tree_of nodes l) e ∙ tree_by-none (λ at n. item_of n.entry) nodes

in_range : (nodes : List Node) (at : ℕ) → IsLink nodes (Some at) → at < length nodes
unfolding IsLink
in_range nodes at is = is

pub node_of_link : (nodes : List Node) (link : Option ℕ) (at : ℕ) → IsLink nodes link → link ≡ Some at → at < length nodes
node_of_link nodes link at is e = in_range nodes at (subst (IsLink nodes) e is)

-- a link to a node names a tree with items
pub node_named : (nodes : List Node) (at : ℕ) → at < length nodes → 0 < size (tree_of nodes (Some at))
unfolding size IsLink
node_named [] at h = absurd (omega arith)
node_named (n ∷ older) at h =
    let f = λ (k : ℕ) (m : Node). item_of m.entry in
    elim (cases_eq at (length older)) [
      | inl newest ↦ omega (arith, ap (λ (t : Tree (Item Body)). size t) (tree_by-newest f n older at newest))
      | inr other ↦ omega (arith, ap (λ (t : Tree (Item Body)). size t) (tree_by-older f n older (Some at) (omega arith)), node_named older at (omega arith))
    ]

pub some_items : (nodes : List Node) (link : Option ℕ) (at : ℕ) → IsLink nodes link → link ≡ Some at → 0 < size (tree_of nodes link)
some_items nodes link at is e = omega (arith, ap (λ (l : Option ℕ). size (tree_of nodes l)) e, node_named nodes at (node_of_link nodes link at is e))
