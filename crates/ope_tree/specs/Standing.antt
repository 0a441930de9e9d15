-- What stands at the end of a way of a tree.
use Rattle.std.specs.Prelude.{◌≡◌, ℕ, List, Option, Some, None}
use Rattle.mope_base.specs.declared.body.Body.{Body}
use Rattle.tree_model.specs.declared.Side.{Side}
use Rattle.tree_model.specs.declared.Place.{Place}
use Rattle.tree_model.specs.Trees.{Tree, leaf, node, size, path, IsPlaceOf}
use Rattle.tree_model.specs.Insertion.{tree_at}
use Rattle.ope_tree.specs.declared.stops.Stop.{Stop}
use Rattle.ope_tree.specs.declared.stops.Stop.TheVariants.{Node, Gap}
use Rattle.ope_tree.specs.declared.nodes.Node.{Node as Stored}
use Rattle.ope_tree.specs.Nodes.{tree_of}
use Rattle.ope_tree.specs.Seen.{Seen}

unfoldable pub root_item : {A : Type 0} → Tree A → Option A
root_item leaf = None
root_item (node l x r) = Some x

-- a name is that of the node at the end of the way
abbrev pub IsNamed : Seen → List Side → ℕ → Type 0
IsNamed t way at = root_item (tree_at way t.names) ≡ Some at

-- the node at the end of the way has this name and an item with this body
pub record IsNodeThere (t : Seen) (way : List Side) (at : ℕ) (body : Body) : Type 0 where
  pub named : IsNamed t way at
  pub count : ℕ
  pub item : root_item (tree_at way t.column.tree) ≡ Some (record { body = body; count = count })

-- a stop tells what stands at the end of the way
abbrev pub StandsAt : Seen → List Side → Stop → Type 0
StandsAt t way (Node at body) = IsNodeThere t way at.0 body
StandsAt t way Gap = tree_at way t.column.tree ≡ leaf

-- a way that leads to no item and to no gap
abbrev pub NamesNothing : {A : Type 0} → Tree A → List Side → Type 0
NamesNothing t way = (place : Place) → IsPlaceOf (size t) place → ¬ (path t place ≡ way)

-- the place is one of the tree, and the way is its
pub record IsPlaceAt (A : Type 0) (t : Tree A) (way : List Side) (place : Place) : Type 0 where
  pub within : IsPlaceOf (size t) place
  pub way_is : path t place ≡ way

-- a stop that names the node of a link, with the body of its item
abbrev pub IsStopOf : List Stored → Option ℕ → Stop → Type 0
IsStopOf nodes link (Node at body) = (link ≡ Some at.0) × (count : ℕ) × (root_item (tree_of nodes link) ≡ Some (record { body = body; count = count }))
IsStopOf nodes link Gap = link ≡ None
