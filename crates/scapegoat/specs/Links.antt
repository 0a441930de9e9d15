-- The children of each item of a tree, in the order of the items.
use Rattle.std.specs.Prelude.{ℕ, List, [], ◌∷◌, ◌++◌, Option, Some, None}
use Rattle.std.specs.List.{range_with_len}
use Rattle.tree_model.specs.Trees.{Tree, leaf, node, balanced}
use Rattle.scapegoat.specs.declared.links.Links.{Links}

unfoldable pub root_of : Tree ℕ → Option ℕ
root_of leaf = None
root_of (node l x r) = Some x

-- from left to right, the roots of both sides of each item
unfoldable pub links_in : Tree ℕ → List Links
links_in leaf = []
links_in (node l x r) = links_in l ++ record { left = root_of l; right = root_of r } ∷ links_in r

-- the children in the balanced tree of the numbers 0 to n - 1
unfoldable pub links_of : ℕ → List Links
links_of n = links_in (balanced (range_with_len 0 n))
