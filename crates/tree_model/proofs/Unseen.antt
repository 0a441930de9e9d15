-- What an operation does to the items doesn't depend on whether the tree was balanced whole before.
use Rattle.std.proofs.Common.{◌≡◌, ℕ, Bool, true, false, List, refl, ap, ◌∙◌, sym}
use Rattle.tree_model.specs.Trees.{size}
use Rattle.tree_model.specs.Items.{Item, add_item, drop_item, is_sparse, swept, AllLive}
use Rattle.tree_model.specs.Columns.{Column, items_of, drop_one, lay, Operation, Add, Drop, Lay, apply}
use Rattle.tree_model.specs.ColumnLaws.{SuitsMode}
use Rattle.tree_model.proofs.Kept.{items-add, items-drop, items-lay}
use Rattle.tree_model.proofs.LiveItems.{live_items-all, AllLive-drop_item}

-- where every item is live, a sweep leaves them all
swept-all : {B : Type 0} (b : Bool) (xs : List (Item B)) → AllLive xs → swept b xs ≡ xs
unfolding swept
swept-all true xs all = live_items-all xs all
swept-all false xs all = refl

most-lay : {B : Type 0} (c : Column B) → (lay c).most ≡ size c.tree
unfolding lay
most-lay c = refl

-- the sweep that either greatest number asks for is the same
same_sweep : {B : Type 0} (same_time : Bool) (rank : ℕ) (c : Column B) → SuitsMode same_time c → swept (is_sparse (size c.tree) (drop_item same_time (items_of c) rank)) (drop_item same_time (items_of c) rank) ≡ swept (is_sparse c.most (drop_item same_time (items_of c) rank)) (drop_item same_time (items_of c) rank)
unfolding SuitsMode
same_sweep false rank c s = ap (λ (m : ℕ). swept (is_sparse m (drop_item false (items_of c) rank)) (drop_item false (items_of c) rank)) (sym s)
same_sweep true rank c s =
    let ys = drop_item true (items_of c) rank in
    let still = AllLive-drop_item (items_of c) rank s in
    swept-all (is_sparse (size c.tree) ys) ys still ∙ sym (swept-all (is_sparse c.most ys) ys still)

drop-after_lay : {B : Type 0} (same_time : Bool) (rank : ℕ) (c : Column B) → SuitsMode same_time c → items_of (drop_one same_time rank (lay c)) ≡ items_of (drop_one same_time rank c)
drop-after_lay same_time rank c s =
    items-drop same_time rank (lay c)
    ∙ ap (λ (xs : List _). swept (is_sparse (lay c).most (drop_item same_time xs rank)) (drop_item same_time xs rank)) (items-lay c)
    ∙ ap (λ (m : ℕ). swept (is_sparse m (drop_item same_time (items_of c) rank)) (drop_item same_time (items_of c) rank)) (most-lay c)
    ∙ same_sweep same_time rank c s
    ∙ sym (items-drop same_time rank c)

pub items-after_lay : {B : Type 0} (same_time : Bool) (operation : Operation B) (c : Column B) → SuitsMode same_time c → items_of (apply same_time operation (lay c)) ≡ items_of (apply same_time operation c)
unfolding apply
items-after_lay same_time (Add p b) c s = items-add p b (lay c) ∙ ap (λ (xs : List _). add_item p b xs) (items-lay c) ∙ sym (items-add p b c)
items-after_lay same_time (Drop rank) c s = drop-after_lay same_time rank c s
items-after_lay same_time Lay c s = items-lay (lay c)
