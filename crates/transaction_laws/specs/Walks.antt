-- The exchanges by which a client finds the place of a value in a column of which the connection has the items sealed.
use Rattle.std.specs.Prelude.{◌≡◌, ℕ, ◌<◌, ◌≤◌, Bool, true, false, eqb, ltb, List, [], ◌∷◌, ◌++◌, map, length, None}
use Rattle.mope_base.specs.declared.body.Body.{Body}
use Rattle.mope_base.specs.declared.numbers.TableNo.{TableNo}
use Rattle.mope_base.specs.declared.numbers.ColNo.{ColNo}
use Rattle.tree_model.specs.declared.Place.{Place}
use Rattle.tree_model.specs.declared.Side.TheVariants.{Left, Right}
use Rattle.tree_model.specs.Trees.{Tree, leaf, node, inorder, height, map_tree}
use Rattle.tree_model.specs.Places.{IsIncreasing}
use Rattle.tree_model.specs.Items.{Item}
use Rattle.tree_model.specs.Walks.{place_in}
use Rattle.table_model.specs.Soundness.{column_at}
use Rattle.value_cipher.specs.Cipher.{Cell, value_of, sealed}
use Rattle.walk_proto.specs.declared.messages.Exchange.{Exchange}
use Rattle.walk_proto.specs.declared.messages.Reply.{Reply}
use Rattle.walk_proto.specs.declared.messages.Reply.TheVariants as reply
use Rattle.walk_proto.specs.declared.messages.Request.{Request}
use Rattle.walk_proto.specs.declared.messages.Request.TheVariants as request
use Rattle.proxy.specs.Client.{Setting, Client}
use Rattle.proxy.specs.Tasks.{Task, looks}
use Rattle.server_conn.specs.Connections.{Held, holds}
use Rattle.server_conn.specs.Checks.{most_marks, own, lacks_table, lacks_column}
use Rattle.transaction_laws.specs.Meetings.{Meets, doing}

unfoldable pub exchanged : Request → Reply → Exchange
exchanged r answer = record { request = r; reply = answer }

-- an item as the connection has it
unfoldable pub sealed_item : List ℕ → Item Cell → Item Body
sealed_item key x = record { body = sealed key x.body; count = x.count }

unfoldable pub value_in : Item Cell → ℕ
value_in x = value_of x.body

-- how a walk goes on at an item: it ends where the value is the item's; else it turns to the left where it is below, or to the right
unfoldable pub onward_by : Bool → Bool → List Exchange → List Exchange → List Exchange
onward_by true below left right = exchanged request.Found reply.Placed ∷ []
onward_by false true left right = left
onward_by false false left right = right

-- a walk for a value, from the request on that leads to this part of the tree
unfoldable pub walk_log : List ℕ → ℕ → Request → Tree (Item Cell) → List Exchange
walk_log key x r leaf = exchanged r reply.Placed ∷ []
walk_log key x r (node left item right) =
    exchanged r (reply.Node (sealed key item.body)) ∷ onward_by (eqb x (value_in item)) (ltb x (value_in item)) (walk_log key x (request.Go Left) left) (walk_log key x (request.Go Right) right)

-- the transaction with one place more, and no walk open
unfoldable pub marked : TableNo → ColNo → Place → Held → Held
marked t column place h = record h { marks = h.marks ++ record { table = t.0; column = column.0; place = place } ∷ []; walk = None }

-- a walk may begin: no other is open, the transaction has the column, with these items sealed, and has room for one place more. The items
-- increase by value, and no way to a gap is longer than 63 steps
pub record MayWalk (key : List ℕ) (t : TableNo) (column : ColNo) (tree : Tree (Item Cell)) (h : Held) : Type 0 where
  pub closed : h.walk ≡ None
  pub has_table : lacks_table h t ≡ false
  pub has_column : lacks_column h t column.0 ≡ false
  pub few : length h.marks < most_marks
  pub same : (column_at (own h t).columns column.0).tree ≡ map_tree (sealed_item key) tree
  pub increasing : IsIncreasing (map value_in (inorder tree))
  pub short : height tree ≤ 63

-- a walk finds the place of its value, whatever stands in the tree: client and connection go on with it as the next place
abbrev pub WalkMeets : Type 0
WalkMeets = (s : Setting) (t : TableNo) (column : ColNo) (x : ℕ) (later : List Task) (tree : Tree (Item Cell)) (c : Client) (h : Held) → MayWalk s.key t column tree h
    → Meets s (doing (looks t column x ∷ later) c) (holds h) (walk_log s.key x (request.WalkStart t column) tree) (doing later c) (holds (marked t column (place_in value_in tree x) h))
