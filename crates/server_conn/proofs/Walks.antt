-- Walks: what stands at the end of a way, one step further, and the transaction after each step.
use Rattle.std.proofs.Common.{◌≡◌, ℕ, suc, ◌+◌, ◌<◌, ◌≤◌, List, [], ◌∷◌, ◌++◌, length, Option, Some, refl, ap, sym, subst, ◌∙◌, arith, add-zero}
use Rattle.mope_base.specs.declared.body.Body.{Body}
use Rattle.mope_base.specs.Lists.{Each}
use Rattle.tree_model.specs.declared.Place.TheVariants.{Gap}
use Rattle.tree_model.specs.declared.Side.{Side}
use Rattle.tree_model.specs.declared.Side.TheVariants.{Left, Right}
use Rattle.tree_model.specs.Trees.{Tree, leaf, node, size, height}
use Rattle.tree_model.specs.Insertion.{child, tree_at}
use Rattle.tree_model.specs.Items.{Item}
use Rattle.tree_model.specs.Parts.{beside, before, IsWay, LeadsToGap}
use Rattle.ope_tree.specs.Standing.{root_item}
use Rattle.tree_model.proofs.GraftPaths.{size-node, size-leaf}
use Rattle.tree_model.proofs.Parts.{part-within}
use Rattle.table_model.specs.Stores.{Shelf}
use Rattle.walk_proto.specs.declared.messages.Reply.TheVariants as reply
use Rattle.server_conn.specs.declared.txn.Walk.{Walk as Going}
use Rattle.server_conn.specs.Connections.{Held, holds}
use Rattle.server_conn.specs.Inside.{IsOpen, IsWalkIf}
use Rattle.server_conn.specs.Serving.{step_to, placed_at, come_to, stepped_from, in_front_of_top}

-- one step further from an item

pub way-next : {A : Type 0} (steps : List Side) (side : Side) (t : Tree A) → IsWay steps t → 0 < size (tree_at steps t) → IsWay (steps ++ side ∷ []) t
unfolding IsWay tree_at
way-next [] side t is_way some = (some, tt)
way-next (s ∷ steps) side t is_way some = (is_way.0, way-next steps side (child s t) is_way.1 some)

pub tree-next : {A : Type 0} (steps : List Side) (side : Side) (t : Tree A) → tree_at (steps ++ side ∷ []) t ≡ child side (tree_at steps t)
unfolding tree_at
tree-next [] side t = refl
tree-next (s ∷ steps) side t = tree-next steps side (child s t)

pub before-next : {A : Type 0} (steps : List Side) (side : Side) (t : Tree A) → before (steps ++ side ∷ []) t ≡ before steps t + beside side (tree_at steps t)
unfolding tree_at before
before-next [] side t = omega arith
before-next (s ∷ steps) side t = let ih = before-next steps side (child s t) in omega (arith, ih)

height-child : {A : Type 0} (side : Side) (t : Tree A) → 0 < size t → suc (height (child side t)) ≤ height t
unfolding height child
height-child {A} side leaf some = absurd (omega (arith, some, size-leaf A))
height-child Left (node l x r) some = omega arith
height-child Right (node l x r) some = omega arith

height-some : {A : Type 0} (t : Tree A) → 0 < size t → 0 < height t
unfolding height
height-some {A} leaf some = absurd (omega (arith, some, size-leaf A))
height-some (node l x r) some = omega arith

pub way-short : {A : Type 0} (steps : List Side) (t : Tree A) → IsWay steps t → 0 < size (tree_at steps t) → length steps < height t
unfolding IsWay tree_at
way-short [] t is_way some = height-some t some
way-short (s ∷ steps) t is_way some = let ih = way-short steps (child s t) is_way.1 some in omega (arith, ih, height-child s t is_way.0)

-- ---- steps of a walk

pub come-item : (table column b : ℕ) (part l : Tree (Item Body)) (body : Body) (count : ℕ) (r : Tree (Item Body)) (h : Held) → part ≡ node l (record { body = body; count = count }) r
    → step_to (reply.Node body) (holds (record h { walk = Some (record { table = table; column = column; before = b; part = part }) })) ≡ come_to table column b part h
unfolding come_to
come-item table column b part l body count r h e =
    let P = λ (u : Tree (Item Body)). step_to (reply.Node body) (holds (record h { walk = Some (record { table = table; column = column; before = b; part = u }) })) ≡ come_to table column b u h in
    subst P (sym e) refl

pub come-gap : (table column b : ℕ) (part : Tree (Item Body)) (h : Held) → part ≡ leaf → placed_at table column (Gap b) h ≡ come_to table column b part h
unfolding come_to
come-gap table column b part h e = let P = λ (u : Tree (Item Body)). placed_at table column (Gap b) h ≡ come_to table column b u h in subst P (sym e) refl

pub step-comes : (side : Side) (table column b : ℕ) (part : Tree (Item Body)) (h : Held) → 0 < size part → come_to table column (b + beside side part) (child side part) h ≡ stepped_from side table column b part h
unfolding stepped_from beside child
step-comes side table column b leaf h some = absurd (omega (arith, some, size-leaf (Item Body)))
step-comes Left table column b (node l x r) h some = rw add-zero refl
step-comes Right table column b (node l x r) h some = refl

pub front-is : (part l : Tree (Item Body)) (x : Item Body) (r : Tree (Item Body)) → part ≡ node l x r → in_front_of_top part ≡ size l
unfolding in_front_of_top
front-is part l x r e = ap in_front_of_top e

-- ---- the transaction

pub each-push : {A : Type 0} (P : A → Type 0) (xs : List A) (x : A) → Each P xs → P x → Each P (xs ++ x ∷ [])
unfolding Each
each-push P [] x each here = (here, tt)
each-push P (y ∷ xs) x each here = (each.0, each-push P xs x each.1 here)

pub open-walk : (shelves : List (Shelf Body)) (marks room : ℕ) (walk : Option Going) (w : Going) → walk ≡ Some w → IsWalkIf shelves marks room walk → IsOpen shelves marks room w
unfolding IsWalkIf
open-walk shelves marks room walk w is if = subst (IsWalkIf shelves marks room) is if

-- ---- what stands at the end of a way

pub record IsNodeAt (A : Type 0) (t : Tree A) (x : A) : Type 0 where
  pub left : Tree A
  pub right : Tree A
  pub is : t ≡ node left x right

pub root-node : {A : Type 0} (t : Tree A) (x : A) → root_item t ≡ Some x → IsNodeAt A t x
unfolding root_item
root-node leaf x is = cc
root-node (node l y r) x is = record { left = l; right = r; is = ap (λ (z : _). node l z r) (let e : y ≡ x = cc in e) }

pub root-some : {A : Type 0} (t : Tree A) (x : A) → root_item t ≡ Some x → 0 < size t
root-some t x is = let at = root-node t x is in let e = ap size at.is ∙ size-node at.left x at.right in omega (arith, e)

pub gap-within : {A : Type 0} (t : Tree A) (steps : List Side) (rank : ℕ) → LeadsToGap A t steps rank → rank ≤ size t
gap-within t steps rank gap = omega (arith, part-within steps t gap.is_way, gap.rank_is)
