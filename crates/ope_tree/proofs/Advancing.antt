-- Walks that count: what a cursor tells of the tree below it, and what the next step comes to.
use Rattle.std.proofs.Common.{◌≡◌, ℕ, ◌+◌, ◌^◌, ◌<◌, Bool, List, [], ◌∷◌, ◌++◌, Option, Some, refl, ap, ◌∙◌, sym, arith}
use Rattle.mope_base.specs.declared.body.Body.{Body}
use Rattle.tree_model.specs.declared.Side.{Side}
use Rattle.tree_model.specs.Trees.{Tree, leaf, node, size}
use Rattle.tree_model.specs.Items.{Item}
use Rattle.tree_model.specs.Insertion.{child, tree_at}
use Rattle.tree_model.specs.Parts.{before, IsWay}
use Rattle.tree_model.proofs.GraftPaths.{size-node}
use Rattle.ope_tree.specs.declared.cursors.Cursor.{Cursor}
use Rattle.ope_tree.specs.declared.nodes.Node.{Node as Stored}
use Rattle.ope_tree.specs.declared.stops.Stop.{Stop}
use Rattle.ope_tree.specs.declared.stops.Stop.TheVariants.{Node, Gap}
use Rattle.ope_tree.specs.Cursors.{ArrivesAt, IsCursorAt, IsRankAt, arrival_of}
use Rattle.ope_tree.specs.Nodes.{item_of, tree_of, names_of, IsLink, IsNodeAt}
use Rattle.ope_tree.specs.Seen.{Seen, seen_of, IsSound}
use Rattle.ope_tree.specs.Standing.{StandsAt, IsStopOf}
use Rattle.ope_tree.specs.Walked.{IsSpotBeside}
use Rattle.ope_tree.proofs.LinkCases.{node_named}
use Rattle.ope_tree.proofs.Stopping.{named_below, stands, tree_at-leaf, tree_at-then}
use Rattle.ope_tree.proofs.WalkedPlaces.{IsSpot, IsSpot-longer, spot-within}

-- a way to a tree with items leaves one at each step
some_at_end : {A : Type 0} (way : List Side) (t : Tree A) → 0 < size (tree_at way t) → IsWay way t
unfolding IsWay tree_at child size
some_at_end [] t some = tt
some_at_end {A} (side ∷ way) leaf some = absurd (omega (arith, ap (size {A = A}) (tree_at-leaf {A = A} way), some))
some_at_end (side ∷ way) (node l x r) some = (omega arith, some_at_end way (child side (node l x r)) some)

pub cursor-spot : (nodes : List Stored) (root : Option ℕ) (most : ℕ) (spent : Bool) (way : List Side) (cursor : Cursor) → IsCursorAt (seen_of nodes root most spent) way cursor → IsSpot nodes root way (Some cursor.at.0) cursor.before
unfolding IsLink
cursor-spot nodes root most spent way cursor is =
    let below = named_below (λ at n. item_of n.entry) nodes root way cursor.at.0 is.named in
    let some = node_named nodes cursor.at.0 below.within in
    record {
      is_link = below.within;
      is_way = some_at_end way (tree_of nodes root) (omega (arith, ap size below.same, some));
      names = sym below.same;
      count_is = is.before_is;
    }

pub cursor-few : (nodes : List Stored) (root : Option ℕ) (alive most : ℕ) (spent : Bool) (way : List Side) (cursor : Cursor) → IsSound nodes root alive most spent → IsCursorAt (seen_of nodes root most spent) way cursor → cursor.before + size (tree_of nodes (Some cursor.at.0)) < 2 ^ 32
cursor-few nodes root alive most spent way cursor sound is =
    let inside = spot-within nodes root way (Some cursor.at.0) cursor.before (cursor-spot nodes root most spent way cursor is) in
    omega (arith, inside, sound.kept.fits, sound.few)

arrives : (t : Seen) (way : List Side) (stop : Stop) (count : ℕ) → StandsAt t way stop → IsWay way t.column.tree → count ≡ before way t.column.tree → ArrivesAt t way (arrival_of stop count)
arrives t way (Node at body) count is is_way count_is = record { stands = record { named = is.named; before_is = count_is }; count = is.count; item = is.item }
arrives t way Gap count is is_way count_is = record { is_way = is_way; at = is; rank_is = sym count_is }

pub begun : (nodes : List Stored) (root : Option ℕ) (most : ℕ) (spent : Bool) (stop : Stop) → IsLink nodes root → IsStopOf nodes root stop → ArrivesAt (seen_of nodes root most spent) [] (arrival_of stop 0)
unfolding IsWay tree_at before
begun nodes root most spent stop is_link stop_is =
    arrives (seen_of nodes root most spent) [] stop 0 (stands nodes root most spent [] root stop refl refl is_link stop_is) tt refl

pub advanced : (nodes : List Stored) (root : Option ℕ) (most : ℕ) (spent : Bool) (way : List Side) (cursor : Cursor) (side : Side) (link : Option ℕ) (count : ℕ) (stop : Stop) → IsCursorAt (seen_of nodes root most spent) way cursor → IsSpotBeside nodes cursor.at.0 cursor.before side link count → IsStopOf nodes link stop → ArrivesAt (seen_of nodes root most spent) (way ++ side ∷ []) (arrival_of stop count)
advanced nodes root most spent way cursor side link count stop is beside_it stop_is =
    let longer = way ++ side ∷ [] in
    let spot = IsSpot-longer nodes root way cursor.at.0 cursor.before side link count (cursor-spot nodes root most spent way cursor is) beside_it in
    let below = named_below (λ at n. at) nodes root way cursor.at.0 is.named in
    let called = tree_at-then way side (names_of nodes root) ∙ ap (λ (t : Tree ℕ). child side t) below.same ∙ sym beside_it.called in
    arrives (seen_of nodes root most spent) longer stop count (stands nodes root most spent longer link stop called (sym spot.names) spot.is_link stop_is) spot.is_way spot.count_is

pub ranked : (nodes : List Stored) (root : Option ℕ) (most : ℕ) (spent : Bool) (way : List Side) (cursor : Cursor) (n : Stored) (rank : ℕ) → IsCursorAt (seen_of nodes root most spent) way cursor → IsNodeAt nodes cursor.at.0 n → rank ≡ cursor.before + size (tree_of nodes n.left) → IsRankAt (Item Body) (tree_of nodes root) way rank
ranked nodes root most spent way cursor n rank is node_is rank_is =
    let l = tree_of nodes n.left in
    let r = tree_of nodes n.right in
    let spot = cursor-spot nodes root most spent way cursor is in
    let inside = spot-within nodes root way (Some cursor.at.0) cursor.before spot in
    let many = ap size node_is.tree ∙ size-node l (item_of n.entry) r in
    record {
      item = item_of n.entry;
      leads = record { is_way = spot.is_way; left = l; right = r; at = sym spot.names ∙ node_is.tree; rank_is = omega (arith, rank_is, spot.count_is) };
      within = omega (arith, rank_is, inside, many);
    }
