-- The counts of items under the operations, and what depends on counts alone.
use Rattle.std.proofs.Common.{◌≡◌, ℕ, zero, List, [], ◌∷◌, length, map, insert, refl, ap, ◌∙◌, sym}
use Rattle.std.proofs.lemmas.List.{length-map}
use Rattle.tree_model.specs.declared.Place.TheVariants.{Found, Gap}
use Rattle.tree_model.specs.Items.{Item, one_more, one_less, map_item, change_at, add_item, live_items, live, is_sparse}
use Rattle.tree_model.specs.Columns.{Column, items_of, add, lay, map_column}
use Rattle.tree_model.specs.Sums.{bodies, tagged_column}
use Rattle.tree_model.proofs.Changes.{map-change_at}
use Rattle.tree_model.proofs.Mapped.{inorder-map_tree}
use Rattle.tree_model.proofs.Kept.{items-add, items-lay}
use Rattle.tree_model.proofs.Summed.{map_column-tagged_zero}
unfoldable pub use Rattle.tree_model.specs.Tallies.{counts}
pub use Rattle.tree_model.proofs.TalliedItems.{counts-more, counts-less, counts-new, map-live, counts-live}
use Rattle.code_changes.specs.Changes.{with_rows}
use Rattle.code_changes.specs.Columns.{counts_of, raised}

pub counts_of-items : {B : Type 0} (c : Column B) → counts_of c ≡ counts (items_of c)
unfolding counts_of counts
counts_of-items c = refl

-- ---- after an operation

pub counts_of-found : {B : Type 0} (rank : ℕ) (b : B) (c : Column B) → counts_of (add (Found rank) b c) ≡ raised (counts_of c) rank
unfolding counts_of counts add_item
counts_of-found rank b c = ap counts (items-add (Found rank) b c) ∙ counts-more (items_of c) rank

pub counts_of-gap : {B : Type 0} (rank : ℕ) (b : B) (c : Column B) → counts_of (add (Gap rank) b c) ≡ insert (counts_of c) rank 1
unfolding counts_of counts add_item
counts_of-gap rank b c = ap counts (items-add (Gap rank) b c) ∙ counts-new (items_of c) rank b

pub counts_of-lay : {B : Type 0} (c : Column B) → counts_of (lay c) ≡ counts_of c
unfolding counts_of counts
counts_of-lay c = ap counts (items-lay c)

-- ---- the live items

pub bodies-live : {B : Type 0} (items : List (Item B)) → bodies (live_items items) ≡ with_rows (counts items) (bodies items)
unfolding bodies
bodies-live {B} items = map-live (λ (item : Item B). item.body) items

pub live-counts : {B : Type 0} (items : List (Item B)) → live items ≡ length (with_rows (counts items) (counts items))
unfolding live counts
live-counts {B} items = sym (length-map (live_items items) (λ (item : Item B). item.count)) ∙ ap length (counts-live items)

-- whether too few items are live depends on counts alone
pub is_sparse-counts : {B C : Type 0} (most : ℕ) (items : List (Item B)) (others : List (Item C)) → counts items ≡ counts others → is_sparse most items ≡ is_sparse most others
unfolding is_sparse
is_sparse-counts most items others same =
    let e : live items ≡ live others = live-counts items ∙ ap (λ (ns : List ℕ). length (with_rows ns ns)) same ∙ sym (live-counts others) in
    rw e refl

-- ---- ranks in place of bodies

counts-map_item : {B C : Type 0} (f : B → C) (items : List (Item B)) → counts (map (map_item f) items) ≡ counts items
unfolding counts map_item
counts-map_item f [] = refl
counts-map_item f (x ∷ items) = ap (λ (ns : List ℕ). x.count ∷ ns) (counts-map_item f items)

pub counts-map_column : {B C : Type 0} (f : B → C) (c : Column B) → counts (items_of (map_column f c)) ≡ counts (items_of c)
unfolding items_of map_column
counts-map_column f c = ap counts (inorder-map_tree (map_item f) c.tree) ∙ counts-map_item f (items_of c)

pub counts-tagged : {B : Type 0} (c : Column B) → counts (items_of (tagged_column c)) ≡ counts (items_of c)
counts-tagged {B} c =
    sym (counts-map_column (λ o. zero) (tagged_column c)) ∙ ap (λ (d : Column ℕ). counts (items_of d)) (map_column-tagged_zero c) ∙ counts-map_column (λ (b : B). zero) c

-- one row fewer leaves the bodies
pub bodies-less : {B : Type 0} (items : List (Item B)) (rank : ℕ) → bodies (change_at one_less items rank) ≡ bodies items
unfolding bodies one_less
bodies-less {B} items rank = map-change_at (λ (item : Item B). item.body) one_less (λ x. refl) items rank

pub bodies-more : {B : Type 0} (items : List (Item B)) (rank : ℕ) → bodies (change_at one_more items rank) ≡ bodies items
unfolding bodies one_more
bodies-more {B} items rank = map-change_at (λ (item : Item B). item.body) one_more (λ x. refl) items rank
