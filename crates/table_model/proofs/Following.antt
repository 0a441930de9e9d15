-- One column: a row's rank follows its item where the row is still there, and a sound column stays sound.
use Rattle.std.proofs.Common.{◌≡◌, ℕ, suc, zero, ◌<◌, Bool, true, false, List, [], ◌∷◌, length, get_or, insert, refl, ap, ◌∙◌, sym, subst, arith, ltb}
use Rattle.std.proofs.lemmas.Bool.{le-ltb}
use Rattle.std.proofs.lemmas.List.{length-map, get_or-map}
use Rattle.tree_model.specs.declared.Place.{Place}
use Rattle.tree_model.specs.declared.Place.TheVariants.{Found, Gap}
use Rattle.tree_model.specs.Trees.{size, inorder}
use Rattle.tree_model.specs.Places.{one_if, below, holds, placed, place, IsIncreasing}
use Rattle.tree_model.specs.Items.{Item, values, one_less, change_at, add_item}
use Rattle.tree_model.specs.Columns.{Column, items_of, add, drop_one, lay, Operation, Add, Drop, Lay, apply, apply_all}
use Rattle.tree_model.specs.Sums.{origins}
use Rattle.tree_model.specs.Carried.{carried}
use Rattle.tree_model.specs.Ranks.{stays_after}
use Rattle.tree_model.specs.Tallies.{tally, IsOneMore, counts, TalliedItems}
use Rattle.tree_model.proofs.Ways.{length-inorder}
use Rattle.tree_model.proofs.Ordered.{held_at-below}
use Rattle.tree_model.proofs.Changes.{length-change_at, values-add_found, values-add_gap}
use Rattle.tree_model.proofs.Kept.{items-add, items-lay, IsKept-add, IsKept-drop, IsKept-lay}
use Rattle.tree_model.proofs.Suits.{SuitsMode-add, SuitsMode-drop, SuitsMode-lay}
use Rattle.tree_model.proofs.ColumnOrder.{operations_keep_order}
use Rattle.tree_model.proofs.RankLaws.{rank_after_operation, values_follow, rows_keep_item, carried_of_nothing}
use Rattle.tree_model.proofs.TalliedRows.{tally-held, tallied_fewer}
use Rattle.tree_model.proofs.TalliedItems.{counts-less, tallied_column}
use Rattle.table_model.specs.Steps.{rank_in}
use Rattle.table_model.specs.Soundness.{SoundColumn}

-- the values of a column
abbrev pub keys : {B : Type 0} → (B → ℕ) → Column B → List ℕ
keys v c = values v (items_of c)

pub length-keys : {B : Type 0} (v : B → ℕ) (c : Column B) → length (keys v c) ≡ size c.tree
unfolding values items_of
length-keys {B} v c = length-map (inorder c.tree) (λ (item : Item B). v item.body) ∙ length-inorder c.tree

pub length-items : {B : Type 0} (c : Column B) → length (items_of c) ≡ size c.tree
unfolding items_of
length-items c = length-inorder c.tree

-- the values increase, and x is one of them
pub record Owned (B : Type 0) (v : B → ℕ) (c : Column B) (x : ℕ) : Type 0 where
  pub rise : IsIncreasing (keys v c)
  pub held : holds x (keys v c) ≡ true

pub owned-within : {B : Type 0} (v : B → ℕ) (c : Column B) (x : ℕ) → Owned B v c x → below x (keys v c) < size c.tree
owned-within v c x own = omega (arith, (held_at-below x (keys v c) 0 own.rise own.held).0, length-keys v c)

-- the rank of x after an operation that leaves its item
pub carried-below : {B : Type 0} (v : B → ℕ) (same_time : Bool) (operation : Operation B) (c : Column B) (x : ℕ) → Owned B v c x → IsIncreasing (keys v (apply same_time operation c)) → stays_after same_time operation c (below x (keys v c)) ≡ true
    → below x (keys v (apply same_time operation c)) ≡ carried (origins same_time (operation ∷ []) c) (below x (keys v c))
unfolding apply_all
carried-below v same_time operation c x own after stays =
    let rank = below x (keys v c) in
    let is = rank_after_operation same_time operation c rank (owned-within v c x own) in
    let follows = values_follow v same_time (operation ∷ []) c rank 0 after (is.stays ∙ stays) in
    ap (λ (y : ℕ). below y (keys v (apply same_time operation c))) (sym (held_at-below x (keys v c) 0 own.rise own.held).1) ∙ follows.smaller

pub carried-nothing : {B : Type 0} (v : B → ℕ) (same_time : Bool) (c : Column B) (x : ℕ) → Owned B v c x → below x (keys v c) ≡ carried (origins same_time [] c) (below x (keys v c))
carried-nothing v same_time c x own = sym ((carried_of_nothing same_time c (below x (keys v c)) (owned-within v c x own)).carries refl)

pub carried-add : {B : Type 0} (v : B → ℕ) (same_time : Bool) (b : B) (c : Column B) (x : ℕ) → Owned B v c x
    → below x (keys v (add (place (keys v c) (v b)) b c)) ≡ carried (origins same_time (Add (place (keys v c) (v b)) b ∷ []) c) (below x (keys v c))
unfolding apply stays_after
carried-add v same_time b c x own =
    carried-below v same_time (Add (place (keys v c) (v b)) b) c x own ((operations_keep_order v c own.rise).added b) refl

pub carried-lay : {B : Type 0} (v : B → ℕ) (same_time : Bool) (c : Column B) (x : ℕ) → Owned B v c x → below x (keys v (lay c)) ≡ carried (origins same_time (Lay ∷ []) c) (below x (keys v c))
unfolding apply stays_after
carried-lay v same_time c x own = carried-below v same_time Lay c x own (operations_keep_order v c own.rise).laid refl

-- ---- a row fewer

some_of : {A : Type 0} (xs : List A) (k : ℕ) → k < length xs → A
some_of [] k h = absurd (omega arith)
some_of (x ∷ xs) k h = x

-- an item whose value some row still has stays
stays-drop : {B : Type 0} (v : B → ℕ) (same_time : Bool) (c : Column B) (rows earlier : List ℕ) (at d x : ℕ) → TalliedItems v (items_of c) rows → at < size c.tree → IsOneMore (get_or (keys v c) at d) earlier rows → holds x earlier ≡ true → Owned B v c x
    → stays_after same_time (Drop at) c (below x (keys v c)) ≡ true
unfolding counts
stays-drop {B} v same_time c rows earlier at d x tallied h one held own =
    let rank = below x (keys v c) in
    let less = change_at one_less (items_of c) at in
    let here = held_at-below x (keys v c) 0 own.rise own.held in
    let within : rank < length less = omega (arith, here.0, length-keys v c, length-change_at one_less (items_of c) at, length-items c) in
    let e = some_of less rank within in
    let fewer = tallied_fewer (keys v c) (counts (items_of c)) rows at d earlier tallied (omega (arith, h, length-keys v c)) one in
    let is : (get_or less rank e).count ≡ tally earlier x =
    sym (get_or-map (λ (item : Item B). item.count) less rank e 0 within)
    ∙ ap (λ (ns : List ℕ). get_or ns rank 0) (counts-less (items_of c) at ∙ fewer.counted)
    ∙ get_or-map (tally earlier) (keys v c) rank 0 0 here.0
    ∙ ap (tally earlier) here.1 in
    rows_keep_item same_time at c rank e (owned-within v c x own) (omega (arith, is, tally-held x earlier held))

pub carried-drop : {B : Type 0} (v : B → ℕ) (same_time : Bool) (c : Column B) (rows earlier : List ℕ) (at d x : ℕ) → TalliedItems v (items_of c) rows → at < size c.tree → IsOneMore (get_or (keys v c) at d) earlier rows → holds x earlier ≡ true → Owned B v c x
    → below x (keys v (drop_one same_time at c)) ≡ carried (origins same_time (Drop at ∷ []) c) (below x (keys v c))
unfolding apply
carried-drop v same_time c rows earlier at d x tallied h one held own =
    carried-below v same_time (Drop at) c x own ((operations_keep_order v c own.rise).dropped same_time at) (stays-drop v same_time c rows earlier at d x tallied h one held own)

-- ---- the rank of a new row

below-insert : (xs : List ℕ) (x at : ℕ) → below x (insert xs at x) ≡ below x xs
unfolding below one_if
below-insert xs x zero = rw (le-ltb x x (omega arith)) refl
below-insert [] x (suc at) = rw (le-ltb x x (omega arith)) refl
below-insert (y ∷ xs) x (suc at) = ap (one_if (ltb y x)) (below-insert xs x at)

below-new : {B : Type 0} (v : B → ℕ) (p : Place) (b : B) (items : List (Item B)) → below (v b) (values v (add_item p b items)) ≡ below (v b) (values v items)
below-new v (Found rank) b items = ap (below (v b)) (values-add_found v rank b items)
below-new v (Gap rank) b items = ap (below (v b)) (values-add_gap v rank b items) ∙ below-insert (values v items) (v b) rank

pub below-add : {B : Type 0} (v : B → ℕ) (p : Place) (b : B) (c : Column B) → below (v b) (keys v (add p b c)) ≡ below (v b) (keys v c)
below-add v p b c = ap (λ (items : List (Item _)). below (v b) (values v items)) (items-add p b c) ∙ below-new v p b (items_of c)

rank_in-placed : (held : Bool) (rank : ℕ) → rank_in (placed held rank) ≡ rank
unfolding rank_in placed
rank_in-placed true rank = refl
rank_in-placed false rank = refl

pub rank_in-place : (xs : List ℕ) (x : ℕ) → rank_in (place xs x) ≡ below x xs
unfolding place
rank_in-place xs x = rank_in-placed (holds x xs) (below x xs)

-- ---- a sound column

pub sound-add : {B : Type 0} (v : B → ℕ) (same_time : Bool) (b : B) (c : Column B) (rows later : List ℕ) → SoundColumn B v same_time c rows → IsOneMore (v b) rows later → SoundColumn B v same_time (add (place (keys v c) (v b)) b c) later
sound-add v same_time b c rows later s one =
    let p = place (keys v c) (v b) in
    record { tallied = (tallied_column v c rows s.tallied).more b later one; kept = IsKept-add p b c s.kept; suits = SuitsMode-add same_time p b c s.suits }

pub sound-drop : {B : Type 0} (v : B → ℕ) (same_time : Bool) (at d : ℕ) (c : Column B) (rows earlier : List ℕ) → SoundColumn B v same_time c rows → at < size c.tree → IsOneMore (get_or (keys v c) at d) earlier rows → SoundColumn B v same_time (drop_one same_time at c) earlier
sound-drop v same_time at d c rows earlier s h one =
    record { tallied = (tallied_column v c rows s.tallied).fewer same_time at d earlier h one; kept = IsKept-drop same_time at c s.kept; suits = SuitsMode-drop same_time at c s.suits }

pub sound-lay : {B : Type 0} (v : B → ℕ) (same_time : Bool) (c : Column B) (rows : List ℕ) → SoundColumn B v same_time c rows → SoundColumn B v same_time (lay c) rows
sound-lay {B} v same_time c rows s =
    record {
      tallied = subst (λ (items : List (Item B)). TalliedItems v items rows) (sym (items-lay c)) s.tallied;
      kept = IsKept-lay c s.kept;
      suits = SuitsMode-lay same_time c s.suits;
    }
