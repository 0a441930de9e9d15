-- The nodes of an arena, newest first, and the tree that a link names: a node's number is how many nodes are older, and its children are older than it.
use Rattle.std.specs.Prelude.{◌≡◌, ℕ, suc, ◌+◌, ◌<◌, Bool, true, false, ◌==◌, List, [], ◌∷◌, length, map, Option, Some, None}
use Rattle.mope_base.specs.declared.body.Body.{Body}
use Rattle.tree_model.specs.Trees.{Tree, leaf, node, size}
use Rattle.tree_model.specs.Items.{Item}
use Rattle.ope_tree.specs.declared.nodes.Entry.{Entry}
use Rattle.ope_tree.specs.declared.nodes.Node.{Node}

unfoldable pub item_of : Entry → Item Body
item_of entry = record { body = entry.body; count = entry.count }

unfoldable pub items_of_entries : List Entry → List (Item Body)
items_of_entries entries = map item_of entries

unfoldable pub newest : {A : Type 0} → Bool → A → A → A
newest true mine older = mine
newest false mine older = older

-- the tree of a link, each node seen as f says of its number and itself
unfoldable pub tree_by : {A : Type 0} → (ℕ → Node → A) → List Node → Option ℕ → Tree A
tree_by f [] link = leaf
tree_by f (n ∷ older) None = leaf
tree_by f (n ∷ older) (Some at) = newest (at == length older) (node (tree_by f older n.left) (f at n) (tree_by f older n.right)) (tree_by f older (Some at))

-- the tree of items
abbrev pub tree_of : List Node → Option ℕ → Tree (Item Body)
tree_of nodes link = tree_by (λ at n. item_of n.entry) nodes link

-- the same tree with the numbers of its nodes
abbrev pub names_of : List Node → Option ℕ → Tree ℕ
names_of nodes link = tree_by (λ at n. at) nodes link

-- a link names a node of the arena, or none
unfoldable pub IsLink : List Node → Option ℕ → Type 0
IsLink nodes None = Unit {0}
IsLink nodes (Some at) = at < length nodes

-- a node that may stand after these: its children are among them, its size counts the items of their trees and its own, and those
-- before its own are the left one's
pub record FitsAfter (older : List Node) (n : Node) : Type 0 where
  pub left : IsLink older n.left
  pub right : IsLink older n.right
  pub size_is : n.size ≡ size (tree_of older n.left) + suc (size (tree_of older n.right))
  pub before_is : n.before ≡ size (tree_of older n.left)

-- each node fits after the older ones
unfoldable pub Fits : List Node → Type 0
Fits [] = Unit {0}
Fits (n ∷ older) = FitsAfter older n × Fits older

-- a link to a node of a smaller number, or to none
unfoldable pub IsOlder : ℕ → Option ℕ → Type 0
IsOlder at None = Unit {0}
IsOlder at (Some child) = child < at

-- what a node tells of its number
pub record IsNodeAt (nodes : List Node) (at : ℕ) (n : Node) : Type 0 where
  pub left : IsLink nodes n.left
  pub right : IsLink nodes n.right
  pub left_older : IsOlder at n.left
  pub right_older : IsOlder at n.right
  pub tree : tree_of nodes (Some at) ≡ node (tree_of nodes n.left) (item_of n.entry) (tree_of nodes n.right)
  pub names : names_of nodes (Some at) ≡ node (names_of nodes n.left) at (names_of nodes n.right)
  pub size_is : n.size ≡ size (tree_of nodes (Some at))
  pub before_is : n.before ≡ size (tree_of nodes n.left)
