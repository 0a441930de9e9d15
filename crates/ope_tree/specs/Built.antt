-- What a builder gives: the arena with further nodes, and a link to the wanted tree. Links from before name what they named.
use Rattle.std.specs.Prelude.{◌≡◌, ℕ, List, ◌++◌, Option}
use Rattle.mope_base.specs.declared.body.Body.{Body}
use Rattle.tree_model.specs.Trees.{Tree}
use Rattle.tree_model.specs.Items.{Item}
use Rattle.ope_tree.specs.declared.nodes.Node.{Node}
use Rattle.ope_tree.specs.Nodes.{tree_of, IsLink}

-- the newer list has the older one at its end
pub record Extends (older newer : List Node) : Type 0 where
  pub further : List Node
  pub grown : newer ≡ further ++ older

pub record IsBuilt (older newer : List Node) (link : Option ℕ) (t : Tree (Item Body)) : Type 0 where
  pub extends : Extends older newer
  pub is_link : IsLink newer link
  pub names : tree_of newer link ≡ t
