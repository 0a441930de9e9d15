-- Where a walk that counts stands, and what it comes to.
use Rattle.std.specs.Prelude.{◌≡◌, ℕ, ◌<◌, List, Some}
use Rattle.mope_base.specs.declared.body.Body.{Body}
use Rattle.tree_model.specs.declared.Side.{Side}
use Rattle.tree_model.specs.Trees.{Tree, size}
use Rattle.tree_model.specs.Items.{Item}
use Rattle.tree_model.specs.Insertion.{tree_at}
use Rattle.tree_model.specs.Parts.{before, LeadsToItem, LeadsToGap}
use Rattle.ope_tree.specs.declared.cursors.Cursor.{Cursor}
use Rattle.ope_tree.specs.declared.cursors.Arrival.{Arrival}
use Rattle.ope_tree.specs.declared.cursors.Arrival.TheVariants.{Node, Gap}
use Rattle.ope_tree.specs.declared.stops.Stop.{Stop}
use Rattle.ope_tree.specs.declared.stops.Stop.TheVariants.{Node as StopsAt, Gap as StopsNowhere}
use Rattle.ope_tree.specs.Seen.{Seen}
use Rattle.ope_tree.specs.Standing.{root_item, IsNamed}

-- a cursor names the node at the end of the way and counts the items left of that node's tree
pub record IsCursorAt (t : Seen) (way : List Side) (cursor : Cursor) : Type 0 where
  pub named : IsNamed t way cursor.at.0
  pub before_is : cursor.before ≡ before way t.column.tree

-- a cursor stands at the end of the way, and the item there has this body
pub record ComesTo (t : Seen) (way : List Side) (cursor : Cursor) (body : Body) : Type 0 where
  pub stands : IsCursorAt t way cursor
  pub count : ℕ
  pub item : root_item (tree_at way t.column.tree) ≡ Some (record { body = body; count = count })

-- what a walk comes to at the end of the way
abbrev pub ArrivesAt : Seen → List Side → Arrival → Type 0
ArrivesAt t way (Node cursor body) = ComesTo t way cursor body
ArrivesAt t way (Gap rank) = LeadsToGap (Item Body) t.column.tree way rank

-- the item at the end of the way has this rank
pub record IsRankAt (A : Type 0) (t : Tree A) (way : List Side) (rank : ℕ) : Type 0 where
  pub item : A
  pub leads : LeadsToItem A t way rank item
  pub within : rank < size t

-- a stop where so many items stand left of the tree there
abbrev pub arrival_of : Stop → ℕ → Arrival
arrival_of (StopsAt at body) count = Node (record { at = at; before = count }) body
arrival_of StopsNowhere count = Gap count
