-- What a mode adds to a column, and that the operations of the mode keep it.
use Rattle.std.proofs.Common.{◌≡◌, ℕ, suc, max, Bool, true, false, List, [], ◌∷◌, refl, ◌∙◌, sym, subst, arith}
use Rattle.tree_model.specs.declared.Place.{Place}
use Rattle.tree_model.specs.declared.Place.TheVariants.{Found, Gap}
use Rattle.tree_model.specs.Trees.{Tree, inorder, size}
use Rattle.tree_model.specs.Items.{Item, new_item, one_more, is_sparse, AllLive}
use Rattle.tree_model.specs.Columns.{Column, empty_column, items_of, add, shrunk, pruned, fewer, drop_one, lay, Operation, Add, Drop, Lay, apply, apply_all}
use Rattle.tree_model.specs.ColumnLaws.{SuitsMode}
use Rattle.tree_model.proofs.Ways.{length-inorder}
use Rattle.tree_model.proofs.Halves.{inorder-balanced, size-balanced}
use Rattle.tree_model.proofs.Depths.{inorder-insert_tree, size-insert_tree}
use Rattle.tree_model.proofs.Removals.{inorder-change_tree, size-change_tree}
use Rattle.tree_model.proofs.LiveItems.{AllLive-live_items, AllLive-insert, AllLive-one_more, AllLive-drop_item}
use Rattle.tree_model.proofs.Kept.{new_item-live, inorder-fewer, inorder-whole, size-fewer_ordinary, size-whole}

pub SuitsMode-add : {B : Type 0} (same_time : Bool) (p : Place) (b : B) (c : Column B) → SuitsMode same_time c → SuitsMode same_time (add p b c)
unfolding SuitsMode add items_of
SuitsMode-add false (Found rank) b c s = s ∙ sym (size-change_tree one_more c.tree rank)
SuitsMode-add false (Gap rank) b c s = omega (arith, s, size-insert_tree (max c.most (suc (size c.tree))) rank (new_item b) c.tree)
SuitsMode-add true (Found rank) b c s = subst AllLive (sym (inorder-change_tree one_more c.tree rank)) (AllLive-one_more (inorder c.tree) rank s)
SuitsMode-add true (Gap rank) b c s =
    subst AllLive (sym (inorder-insert_tree (max c.most (suc (size c.tree))) rank (new_item b) c.tree)) (AllLive-insert (inorder c.tree) rank (new_item b) (new_item-live b) s)

exact-shrunk : {B : Type 0} (b : Bool) (t : Tree (Item B)) (most : ℕ) → most ≡ size t → SuitsMode false (shrunk b t most)
unfolding SuitsMode shrunk
exact-shrunk true t most exact = sym (size-whole t)
exact-shrunk false t most exact = exact

live-shrunk : {B : Type 0} (b : Bool) (t : Tree (Item B)) (most : ℕ) → AllLive (inorder t) → SuitsMode true (shrunk b t most)
unfolding SuitsMode shrunk items_of
live-shrunk true t most all = subst AllLive (sym (inorder-whole t)) (AllLive-live_items (inorder t))
live-shrunk false t most all = all

pub SuitsMode-drop : {B : Type 0} (same_time : Bool) (rank : ℕ) (c : Column B) → SuitsMode same_time c → SuitsMode same_time (drop_one same_time rank c)
unfolding SuitsMode drop_one pruned items_of
SuitsMode-drop false rank c s =
    let t = fewer false c.tree rank in
    exact-shrunk (is_sparse c.most (inorder t)) t c.most (s ∙ sym (size-fewer_ordinary c.tree rank))
SuitsMode-drop true rank c s =
    let t = fewer true c.tree rank in
    live-shrunk (is_sparse c.most (inorder t)) t c.most (subst AllLive (sym (inorder-fewer true c.tree rank)) (AllLive-drop_item (inorder c.tree) rank s))

pub SuitsMode-lay : {B : Type 0} (same_time : Bool) (c : Column B) → SuitsMode same_time c → SuitsMode same_time (lay c)
unfolding SuitsMode lay items_of
SuitsMode-lay false c s = sym (size-balanced (inorder c.tree) ∙ length-inorder c.tree)
SuitsMode-lay true c s = subst AllLive (sym (inorder-balanced (inorder c.tree))) s

pub SuitsMode-apply : {B : Type 0} (same_time : Bool) (operation : Operation B) (c : Column B) → SuitsMode same_time c → SuitsMode same_time (apply same_time operation c)
unfolding apply
SuitsMode-apply same_time (Add p b) c s = SuitsMode-add same_time p b c s
SuitsMode-apply same_time (Drop rank) c s = SuitsMode-drop same_time rank c s
SuitsMode-apply same_time Lay c s = SuitsMode-lay same_time c s

pub SuitsMode-apply_all : {B : Type 0} (same_time : Bool) (operations : List (Operation B)) (c : Column B) → SuitsMode same_time c → SuitsMode same_time (apply_all same_time operations c)
unfolding apply_all
SuitsMode-apply_all same_time [] c s = s
SuitsMode-apply_all same_time (operation ∷ operations) c s = SuitsMode-apply_all same_time operations (apply same_time operation c) (SuitsMode-apply same_time operation c s)

pub SuitsMode-empty : (B : Type 0) (same_time : Bool) → SuitsMode same_time (empty_column B)
unfolding SuitsMode empty_column items_of inorder size AllLive
SuitsMode-empty B false = refl
SuitsMode-empty B true = tt
