-- The transaction at each step of a walk.
use Rattle.std.proofs.Common.{◌≡◌, ℕ, suc, ◌+◌, ◌<◌, ◌≤◌, List, [], ◌∷◌, ◌++◌, length, map, Option, Some, None, Vec, Global, refl, ap, sym, subst, ◌∙◌, arith, vec_capacity}
use Rattle.mope_base.specs.declared.body.Body.{Body}
use Rattle.mope_base.specs.declared.numbers.TableNo.{TableNo}
use Rattle.mope_base.specs.declared.numbers.ColNo.{ColNo}
use Rattle.mope_base.specs.Lists.{Each}
use Rattle.path_code.specs.Ways.{way}
use Rattle.tree_model.specs.declared.Place.{Place}
use Rattle.tree_model.specs.declared.Place.TheVariants.{Found, Gap}
use Rattle.tree_model.specs.declared.Side.{Side}
use Rattle.tree_model.specs.declared.Side.TheVariants.{Left, Right}
use Rattle.tree_model.specs.Trees.{Tree, leaf, node, size, height, path, IsPlaceOf}
use Rattle.tree_model.specs.Insertion.{tree_at}
use Rattle.tree_model.specs.Items.{Item}
use Rattle.tree_model.specs.Parts.{beside, before, IsWay, LeadsToItem, LeadsToGap}
use Rattle.tree_model.specs.Columns.{Column}
use Rattle.ope_tree.specs.declared.cursors.Cursor.{Cursor}
use Rattle.ope_tree.specs.declared.cursors.Arrival.{Arrival}
use Rattle.ope_tree.specs.declared.cursors.Arrival.TheVariants as arrival
use Rattle.ope_tree.specs.Seen.{Seen as Shared}
use Rattle.ope_tree.specs.Cursors.{ArrivesAt, ComesTo, IsRankAt}
use Rattle.ope_tree.specs.Standing.{root_item}
use Rattle.table_model.specs.Operations.{shelf_at}
use Rattle.table_model.specs.Soundness.{column_at}
use Rattle.table_model.specs.Stores.{Shelf}
use Rattle.walk_proto.specs.declared.messages.Reply.TheVariants as reply
use Rattle.server_conn.specs.declared.came.Came.TheVariants as came
use Rattle.server_conn.specs.declared.txn.Txn.{Txn}
use Rattle.server_conn.specs.declared.txn.Walk.{Walk as Going}
use Rattle.server_conn.specs.declared.txn.Mark.{Mark as Placed}
use Rattle.server_conn.specs.Connections.{Held, Mark, Walk, holds}
use Rattle.server_conn.specs.Checks.{own}
use Rattle.server_conn.specs.Inside.{shelves_in, tree_in, held_in, mark_of, walk_of, walk_if, step_by, shut, IsMarkIn, IsWalkIn, IsOpen, IsWalkIf, IsTxn}
use Rattle.server_conn.specs.Serving.{step_to, placed_at, come_to, stepped_from, stepped, in_front_of_top, found, walk_started}
use Rattle.server_conn.proofs.Walks.{way-next, tree-next, before-next, way-short, come-item, come-gap, step-comes, front-is, each-push, open-walk, root-node, root-some, gap-within}

marks-push : (marks : List Placed) (m : Placed) → map mark_of (marks ++ m ∷ []) ≡ map mark_of marks ++ mark_of m ∷ []
marks-push [] m = refl
marks-push (n ∷ marks) m = ap (λ (ms : List Mark). mark_of n ∷ ms) (marks-push marks m)

-- ---- a place is kept

pub kept-held : (t : Txn) (marks : Vec Placed Global) (table : TableNo) (column : ColNo) (place : Place) → marks.items ≡ t.marks.items ++ record { table = table; column = column; place = place } ∷ []
    → step_by (came.Says reply.Placed) (held_in (record t { marks = marks; walk = None })) ≡ placed_at table.0 column.0 place (held_in t)
unfolding step_by placed_at held_in shelves_in walk_if mark_of
kept-held t marks table column place is =
    let m : Placed = record { table = table; column = column; place = place } in
    let e : map mark_of marks.items ≡ map mark_of t.marks.items ++ mark_of m ∷ [] = ap (map mark_of) is ∙ marks-push t.marks.items m in
    ap (λ (ms : List Mark). step_to reply.Placed (holds (record (held_in t) { marks = ms; walk = None }))) e

pub kept-txn : (t : Txn) (marks : Vec Placed Global) (m : Placed) → IsTxn t → IsMarkIn (shelves_in t) m → marks.items ≡ t.marks.items ++ m ∷ [] → IsTxn (record t { marks = marks; walk = None })
unfolding shelves_in IsWalkIf
kept-txn t marks m txn here is = record {
  database = txn.database;
  few = txn.few;
  own = txn.own;
  made = txn.made;
  done = txn.done;
  marks = subst (Each (IsMarkIn (shelves_in t))) (sym is) (each-push (IsMarkIn (shelves_in t)) t.marks.items m txn.marks here);
  walk = tt;
}

-- ---- a walk is open

pub open-txn : (t : Txn) (w : Going) → IsTxn t → IsWalkIn (shelves_in t) w → length t.marks.items < vec_capacity t.marks → IsTxn (record t { walk = Some w })
unfolding shelves_in IsWalkIf
open-txn t w txn goes room = record {
  database = txn.database;
  few = txn.few;
  own = txn.own;
  made = txn.made;
  done = txn.done;
  marks = txn.marks;
  walk = record { goes = goes; room = room };
}

-- what a walk arrives at, by its case
pub arrives-item : (t : Shared) (steps : List Side) (a : Arrival) (cursor : Cursor) (body : Body) → a ≡ arrival.Node cursor body → ArrivesAt t steps a → ComesTo t steps cursor body
arrives-item t steps a cursor body is arrives = subst (ArrivesAt t steps) is arrives

pub arrives-gap : (t : Shared) (steps : List Side) (a : Arrival) (rank : ℕ) → a ≡ arrival.Gap rank → ArrivesAt t steps a → LeadsToGap (Item Body) t.column.tree steps rank
arrives-gap t steps a rank is arrives = subst (ArrivesAt t steps) is arrives

-- the column's tree, by the walk's share of it
pub shared-tree : (shelves : List (Shelf Body)) (w : Going) → w.tree.column ≡ column_at (shelf_at shelves w.table.0).columns w.column.0 → w.tree.column.tree ≡ tree_in shelves w.table.0 w.column.0
unfolding tree_in
shared-tree shelves w shares = ap (λ (c : Column Body). c.tree) shares

pub come-held : (t : Txn) (w : Going) (body : Body) → w.tree.column ≡ column_at (shelf_at (shelves_in t) w.table.0).columns w.column.0 → ComesTo w.tree (way w.path) w.cursor body
    → step_by (came.Says (reply.Node body)) (held_in (record t { walk = Some w })) ≡ come_to w.table.0 w.column.0 (before (way w.path) w.tree.column.tree) (tree_at (way w.path) w.tree.column.tree) (held_in t)
unfolding step_by held_in shelves_in walk_if walk_of
come-held t w body shares comes =
    let same = shared-tree (shelves_in t) w shares in
    let tree = tree_in (shelves_in t) w.table.0 w.column.0 in
    let at = root-node (tree_at (way w.path) tree) (record { body = body; count = comes.count }) (subst (λ (u : Tree (Item Body)). root_item (tree_at (way w.path) u) ≡ Some (record { body = body; count = comes.count })) same comes.item) in
    come-item w.table.0 w.column.0 (before (way w.path) tree) (tree_at (way w.path) tree) at.left body comes.count at.right (held_in t) at.is
    ∙ sym (ap (λ (u : Tree (Item Body)). come_to w.table.0 w.column.0 (before (way w.path) u) (tree_at (way w.path) u) (held_in t)) same)

pub come-in : (shelves : List (Shelf Body)) (w : Going) (body : Body) → w.table.0 < length shelves → w.column.0 < length (shelf_at shelves w.table.0).columns → w.tree.column ≡ column_at (shelf_at shelves w.table.0).columns w.column.0
    → IsWay (way w.path) w.tree.column.tree → ComesTo w.tree (way w.path) w.cursor body → IsWalkIn shelves w
come-in shelves w body table column shares is_way comes =
    let same = shared-tree shelves w shares in
    record {
      table_there = table;
      column_there = column;
      shares = shares;
      stands = comes.stands;
      is_way = subst (λ (u : Tree (Item Body)). IsWay (way w.path) u) same is_way;
      some = subst (λ (u : Tree (Item Body)). 0 < size (tree_at (way w.path) u)) same (root-some (tree_at (way w.path) w.tree.column.tree) _ comes.item);
    }

pub gap-comes : (table column : ℕ) (t : Tree (Item Body)) (steps : List Side) (rank : ℕ) (h : Held) → LeadsToGap (Item Body) t steps rank → placed_at table column (Gap rank) h ≡ come_to table column (before steps t) (tree_at steps t) h
gap-comes table column t steps rank h gap =
    ap (λ (n : ℕ). placed_at table column (Gap n) h) (sym gap.rank_is) ∙ come-gap table column (before steps t) (tree_at steps t) h gap.at

pub gap-place : (shelves : List (Shelf Body)) (table column : ℕ) (c : Column Body) (steps : List Side) (rank : ℕ) → c ≡ column_at (shelf_at shelves table).columns column → LeadsToGap (Item Body) c.tree steps rank → IsPlaceOf (size (tree_in shelves table column)) (Gap rank)
unfolding IsPlaceOf tree_in
gap-place shelves table column c steps rank shares gap = subst (λ (k : Column Body). rank ≤ size k.tree) shares (gap-within c.tree steps rank gap)

pub item-place : (shelves : List (Shelf Body)) (w : Going) (rank : ℕ) → w.tree.column ≡ column_at (shelf_at shelves w.table.0).columns w.column.0 → IsRankAt (Item Body) w.tree.column.tree (way w.path) rank → IsPlaceOf (size (tree_in shelves w.table.0 w.column.0)) (Found rank)
unfolding IsPlaceOf
item-place shelves w rank shares it = subst (λ (u : Tree (Item Body)). rank < size u) (shared-tree shelves w shares) it.within

-- ---- one step, and the end

pub opened : (t : Txn) (w : Going) → IsTxn t → t.walk ≡ Some w → IsOpen (shelves_in t) (length t.marks.items) (vec_capacity t.marks) w
opened t w txn is = open-walk (shelves_in t) (length t.marks.items) (vec_capacity t.marks) t.walk w is txn.walk

pub walk-is : (t : Txn) (w : Going) → t.walk ≡ Some w → (held_in t).walk ≡ Some (walk_of (shelves_in t) w)
unfolding held_in walk_if
walk-is t w is = ap (walk_if (shelves_in t)) is

pub step-held : (t : Txn) (w : Going) (steps : List Side) (side : Side) → IsWalkIn (shelves_in t) w → steps ≡ way w.path ++ side ∷ []
    → come_to w.table.0 w.column.0 (before steps w.tree.column.tree) (tree_at steps w.tree.column.tree) (held_in t) ≡ stepped side (Some (walk_of (shelves_in t) w)) (held_in t)
unfolding stepped walk_of
step-held t w steps side goes along =
    let tree = tree_in (shelves_in t) w.table.0 w.column.0 in
    ap (λ (u : Tree (Item Body)). come_to w.table.0 w.column.0 (before steps u) (tree_at steps u) (held_in t)) (shared-tree (shelves_in t) w goes.shares)
    ∙ ap (λ (k : List Side). come_to w.table.0 w.column.0 (before k tree) (tree_at k tree) (held_in t)) along
    ∙ ap (λ (k : ℕ). come_to w.table.0 w.column.0 k (tree_at (way w.path ++ side ∷ []) tree) (held_in t)) (before-next (way w.path) side tree)
    ∙ ap (λ (k : Tree (Item Body)). come_to w.table.0 w.column.0 (before (way w.path) tree + beside side (tree_at (way w.path) tree)) k (held_in t)) (tree-next (way w.path) side tree)
    ∙ step-comes side w.table.0 w.column.0 (before (way w.path) tree) (tree_at (way w.path) tree) (held_in t) goes.some

pub step-way : (shelves : List (Shelf Body)) (w : Going) (steps : List Side) (side : Side) → IsWalkIn shelves w → steps ≡ way w.path ++ side ∷ [] → IsWay steps w.tree.column.tree
step-way shelves w steps side goes along =
    let tree = tree_in shelves w.table.0 w.column.0 in
    subst (λ (u : Tree (Item Body)). IsWay steps u) (sym (shared-tree shelves w goes.shares)) (subst (λ (k : List Side). IsWay k tree) (sym along) (way-next (way w.path) side tree goes.is_way goes.some))

pub step-short : (shelves : List (Shelf Body)) (w : Going) → IsWalkIn shelves w → height w.tree.column.tree ≤ 63 → length (way w.path) < 63
step-short shelves w goes short =
    let deep = way-short (way w.path) (tree_in shelves w.table.0 w.column.0) goes.is_way goes.some in
    omega (arith, deep, ap (λ (u : Tree (Item Body)). height u) (shared-tree shelves w goes.shares), short)

pub found-held : (t : Txn) (w : Going) (rank : ℕ) → IsWalkIn (shelves_in t) w → IsRankAt (Item Body) w.tree.column.tree (way w.path) rank → placed_at w.table.0 w.column.0 (Found rank) (held_in t) ≡ found (Some (walk_of (shelves_in t) w)) (held_in t)
unfolding found walk_of
found-held t w rank goes it =
    let tree = tree_in (shelves_in t) w.table.0 w.column.0 in
    let leads = subst (λ (u : Tree (Item Body)). LeadsToItem (Item Body) u (way w.path) rank it.item) (shared-tree (shelves_in t) w goes.shares) it.leads in
    let front = front-is (tree_at (way w.path) tree) leads.left it.item leads.right leads.at in
    let e : rank ≡ before (way w.path) tree + in_front_of_top (tree_at (way w.path) tree) = omega (arith, front, leads.rank_is) in
    ap (λ (n : ℕ). placed_at w.table.0 w.column.0 (Found n) (held_in t)) e

-- ---- a walk that was taken out

pub shut-txn : (t : Txn) → IsTxn t → IsTxn (shut t)
unfolding shut shelves_in IsWalkIf
shut-txn t txn = record { database = txn.database; few = txn.few; own = txn.own; made = txn.made; done = txn.done; marks = txn.marks; walk = tt }

pub shut-held : (t : Txn) → t.walk ≡ None → held_in (shut t) ≡ held_in t
unfolding shut held_in shelves_in walk_if
shut-held t none = sym (ap (λ (w : Option Going). let h : Held = record (held_in t) { walk = walk_if (shelves_in t) w } in h) none)

pub shut-open : (t : Txn) (w : Going) → IsTxn t → t.walk ≡ Some w → IsOpen (shelves_in (shut t)) (length (shut t).marks.items) (vec_capacity (shut t).marks) w
unfolding shut shelves_in
shut-open t w txn is = opened t w txn is

come-shut : (table column b : ℕ) (part : Tree (Item Body)) (h : Held) → come_to table column b part (record h { walk = None }) ≡ come_to table column b part h
unfolding come_to placed_at
come-shut table column b leaf h = refl
come-shut table column b (node l x r) h = refl

from-shut : (side : Side) (table column b : ℕ) (part : Tree (Item Body)) (h : Held) → stepped_from side table column b part (record h { walk = None }) ≡ stepped_from side table column b part h
unfolding stepped_from placed_at
from-shut side table column b leaf h = refl
from-shut Left table column b (node l x r) h = come-shut table column b l h
from-shut Right table column b (node l x r) h = come-shut table column (b + suc (size l)) r h

pub shut-stepped : (t : Txn) (w : Going) (side : Side) → t.walk ≡ Some w → stepped side (Some (walk_of (shelves_in (shut t)) w)) (held_in (shut t)) ≡ stepped side (held_in t).walk (held_in t)
unfolding shut stepped held_in shelves_in walk_if
shut-stepped t w side is =
    let v = walk_of (shelves_in t) w in
    from-shut side v.table v.column v.before v.part (held_in t) ∙ sym (ap (λ (k : Option Walk). stepped side k (held_in t)) (walk-is t w is))

pub shut-found : (t : Txn) (w : Going) → t.walk ≡ Some w → found (Some (walk_of (shelves_in (shut t)) w)) (held_in (shut t)) ≡ found (held_in t).walk (held_in t)
unfolding shut found placed_at held_in shelves_in walk_if
shut-found t w is = sym (ap (λ (k : Option Walk). found k (held_in t)) (walk-is t w is))

-- ---- the begin

pub more-room : (t : Txn) (marks : Vec Placed Global) → IsTxn t → t.walk ≡ None → marks.items ≡ t.marks.items → IsTxn (record t { marks = marks })
unfolding shelves_in IsWalkIf
more-room t marks txn closed is = record {
  database = txn.database;
  few = txn.few;
  own = txn.own;
  made = txn.made;
  done = txn.done;
  marks = subst (Each (IsMarkIn (shelves_in t))) (sym is) txn.marks;
  walk = subst (IsWalkIf (shelves_in t) (length marks.items) (vec_capacity marks)) (sym closed) tt;
}

pub same-room : (t : Txn) (marks : Vec Placed Global) → marks.items ≡ t.marks.items → held_in (record t { marks = marks }) ≡ held_in t
unfolding held_in shelves_in
same-room t marks is = ap (λ (ms : List Placed). let h : Held = record (held_in t) { marks = map mark_of ms } in h) is

pub root-way : (t : Tree (Item Body)) (steps : List Side) → steps ≡ [] → IsWay steps t
unfolding IsWay
root-way t steps none = subst (λ (k : List Side). IsWay k t) (sym none) tt

pub start-held : (t : Txn) (marks : Vec Placed Global) (table : TableNo) (column : ColNo) (c : Column Body) (steps : List Side) → steps ≡ [] → marks.items ≡ t.marks.items → c ≡ column_at (shelf_at (shelves_in (record t { marks = marks })) table.0).columns column.0
    → come_to table.0 column.0 (before steps c.tree) (tree_at steps c.tree) (held_in (record t { marks = marks })) ≡ walk_started table column (held_in t)
unfolding walk_started before tree_at own held_in shelves_in
start-held t marks table column c steps none is shares =
    ap (λ (k : List Side). come_to table.0 column.0 (before k c.tree) (tree_at k c.tree) (held_in (record t { marks = marks }))) none
    ∙ ap (λ (k : Column Body). come_to table.0 column.0 0 k.tree (held_in (record t { marks = marks }))) shares
    ∙ ap (λ (h : Held). come_to table.0 column.0 0 (column_at (shelf_at (shelves_in t) table.0).columns column.0).tree h) (same-room t marks is)
