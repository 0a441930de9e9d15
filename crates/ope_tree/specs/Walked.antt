-- A walk down a tree, step by step: where a step leads, and the place that the end of the walk is.
use Rattle.std.specs.Prelude.{◌≡◌, ℕ, ◌+◌, ◌<◌, List, Option, Some}
use Rattle.tree_model.specs.declared.Side.{Side}
use Rattle.tree_model.specs.declared.Place.{Place}
use Rattle.tree_model.specs.declared.Place.TheVariants.{Found, Gap}
use Rattle.tree_model.specs.Trees.{Tree, leaf, node, size}
use Rattle.tree_model.specs.Insertion.{child}
use Rattle.tree_model.specs.Parts.{beside}
use Rattle.ope_tree.specs.declared.nodes.Node.{Node}
use Rattle.ope_tree.specs.Nodes.{tree_of, names_of, IsLink}

-- a link to the tree on one side of a node, and how many items stand left of it, where so many stand left of the node's tree
pub record IsSpotBeside (nodes : List Node) (at before : ℕ) (side : Side) (link : Option ℕ) (count : ℕ) : Type 0 where
  pub is_node : 0 < size (tree_of nodes (Some at))
  pub is_link : IsLink nodes link
  pub names : tree_of nodes link ≡ child side (tree_of nodes (Some at))
  pub called : names_of nodes link ≡ child side (names_of nodes (Some at))
  pub count_is : count ≡ before + beside side (tree_of nodes (Some at))

-- the place of a tree's root among the places of a tree that has so many items left of this one
pub record IsRootAfter (A : Type 0) (t : Tree A) (before rank : ℕ) : Type 0 where
  pub left : Tree A
  pub item : A
  pub right : Tree A
  pub root : t ≡ node left item right
  pub rank_is : rank ≡ before + size left

abbrev pub IsPlaceAfter : {A : Type 0} → Tree A → ℕ → Place → Type 0
IsPlaceAfter {A} t before (Found rank) = IsRootAfter A t before rank
IsPlaceAfter t before (Gap rank) = (t ≡ leaf) × (rank ≡ before)
