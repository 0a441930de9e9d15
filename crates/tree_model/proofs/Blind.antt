-- An operation doesn't look at bodies: on other bodies it is the same operation.
use Rattle.std.proofs.Common.{◌≡◌, ℕ, suc, zero, ◌-◌, ◌*◌, max, Bool, true, false, ◌&&◌, ltb, List, [], ◌∷◌, length, take, map, reverse, slice_get, refl, ap, ap₂, ◌∙◌, sym, inl, inr, arith}
use Rattle.std.proofs.lemmas.Bool.{cases_order, cases_lt}
use Rattle.std.proofs.lemmas.List.{length-map}
use Rattle.tree_model.specs.declared.Side.{Side}
use Rattle.tree_model.specs.declared.Side.TheVariants.{Left, Right}
use Rattle.tree_model.specs.declared.Place.{Place}
use Rattle.tree_model.specs.declared.Place.TheVariants.{Found, Gap}
use Rattle.tree_model.specs.Trees.{Tree, leaf, node, inorder, size, path, balanced, map_tree}
use Rattle.tree_model.specs.Items.{Item, new_item, one_more, one_less, map_item, has_rows, live_items, live, is_dead, is_sparse}
use Rattle.tree_model.specs.Balance.{limit, nearest_heavy}
use Rattle.tree_model.specs.Insertion.{child, with_child, tree_at, put_at, sizes_along, graft, balanced_at, scapegoat_way, settled, insert_tree}
use Rattle.tree_model.specs.Removal.{change_tree, first_or, without_first, joined, remove_tree}
use Rattle.tree_model.specs.Columns.{Column, whole, add, taken_out, shrunk, pruned, fewer, drop_one, lay, Operation, Add, Drop, Lay, apply, apply_all, map_column, map_operation}
use Rattle.tree_model.proofs.Mapped.{size-map_tree, inorder-map_tree, path-map_tree, balanced-map}
use Rattle.tree_model.proofs.Removals.{change-left, change-here, change-right, remove-left, remove-here, remove-right}
use Rattle.tree_model.proofs.LiveItems.{live_items-yes, live_items-no, live_items-nil}

-- ---- parts of trees

child-map : {A B : Type 0} (f : A → B) (side : Side) (t : Tree A) → child side (map_tree f t) ≡ map_tree f (child side t)
unfolding child map_tree
child-map f side leaf = refl
child-map f Left (node l x r) = refl
child-map f Right (node l x r) = refl

with_child-map : {A B : Type 0} (f : A → B) (side : Side) (t u : Tree A) → with_child side (map_tree f t) (map_tree f u) ≡ map_tree f (with_child side t u)
unfolding with_child map_tree
with_child-map f side leaf u = refl
with_child-map f Left (node l x r) u = refl
with_child-map f Right (node l x r) u = refl

pub tree_at-map : {A B : Type 0} (f : A → B) (way : List Side) (t : Tree A) → tree_at way (map_tree f t) ≡ map_tree f (tree_at way t)
unfolding tree_at
tree_at-map f [] t = refl
tree_at-map f (side ∷ way) t = ap (λ (u : Tree _). tree_at way u) (child-map f side t) ∙ tree_at-map f way (child side t)

pub put_at-map : {A B : Type 0} (f : A → B) (way : List Side) (t u : Tree A) → put_at way (map_tree f t) (map_tree f u) ≡ map_tree f (put_at way t u)
unfolding put_at
put_at-map f [] t u = refl
put_at-map f (side ∷ way) t u =
    ap (λ (c : Tree _). with_child side (map_tree f t) (put_at way c (map_tree f u))) (child-map f side t)
    ∙ ap (λ (c : Tree _). with_child side (map_tree f t) c) (put_at-map f way (child side t) u)
    ∙ with_child-map f side t (put_at way (child side t) u)

pub sizes_along-map : {A B : Type 0} (f : A → B) (way : List Side) (t : Tree A) → sizes_along way (map_tree f t) ≡ sizes_along way t
unfolding sizes_along
sizes_along-map f [] t = refl
sizes_along-map f (side ∷ way) t =
    ap₂ (λ (n : ℕ) (sizes : List ℕ). n ∷ sizes) (size-map_tree f t) (ap (λ (u : Tree _). sizes_along way u) (child-map f side t) ∙ sizes_along-map f way (child side t))

one-map : {A B : Type 0} (f : A → B) (x : A) → map_tree f (node leaf x leaf) ≡ node leaf (f x) leaf
unfolding map_tree
one-map f x = refl

pub graft-map : {A B : Type 0} (f : A → B) (rank : ℕ) (x : A) (t : Tree A) → graft rank (f x) (map_tree f t) ≡ map_tree f (graft rank x t)
unfolding graft
graft-map f rank x t =
    ap₂ (λ (way : List Side) (u : Tree _). put_at way (map_tree f t) u) (path-map_tree f t (Gap rank)) (sym (one-map f x))
    ∙ put_at-map f (path t (Gap rank)) t (node leaf x leaf)

pub balanced_at-map : {A B : Type 0} (f : A → B) (way : List Side) (t : Tree A) → balanced_at way (map_tree f t) ≡ map_tree f (balanced_at way t)
unfolding balanced_at
balanced_at-map f way t =
    ap (λ (u : Tree _). put_at way (map_tree f t) u)
    (ap (λ (u : Tree _). balanced (inorder u)) (tree_at-map f way t)
    ∙ ap balanced (inorder-map_tree f (tree_at way t))
    ∙ balanced-map f (inorder (tree_at way t)))
    ∙ put_at-map f way t (balanced (inorder (tree_at way t)))

scapegoat_way-map : {A B : Type 0} (f : A → B) (way : List Side) (t : Tree A) → scapegoat_way way (map_tree f t) ≡ scapegoat_way way t
unfolding scapegoat_way
scapegoat_way-map f way t = ap (λ (sizes : List ℕ). take (length way - suc (nearest_heavy 1 (reverse sizes))) way) (sizes_along-map f way t)

settled-map : {A B : Type 0} (f : A → B) (b : Bool) (way : List Side) (t : Tree A) → settled b way (map_tree f t) ≡ map_tree f (settled b way t)
unfolding settled
settled-map f true way t = ap (λ (front : List Side). balanced_at front (map_tree f t)) (scapegoat_way-map f way t) ∙ balanced_at-map f (scapegoat_way way t) t
settled-map f false way t = refl

pub insert_tree-map : {A B : Type 0} (f : A → B) (most rank : ℕ) (x : A) (t : Tree A) → insert_tree most rank (f x) (map_tree f t) ≡ map_tree f (insert_tree most rank x t)
unfolding insert_tree
insert_tree-map f most rank x t =
    ap₂ (λ (way : List Side) (u : Tree _). settled (ltb (limit most) (length way)) way u) (path-map_tree f t (Gap rank)) (graft-map f rank x t)
    ∙ settled-map f (ltb (limit most) (length (path t (Gap rank)))) (path t (Gap rank)) (graft rank x t)

-- ---- a change and a removal

map-node : {A B : Type 0} (f : A → B) (l : Tree A) (x : A) (r : Tree A) → map_tree f (node l x r) ≡ node (map_tree f l) (f x) (map_tree f r)
unfolding map_tree
map-node f l x r = refl

leaf_change : {A B : Type 0} (f : A → B) (g : A → A) (h : B → B) (rank : ℕ) → change_tree h (map_tree f leaf) rank ≡ map_tree f (change_tree g leaf rank)
unfolding change_tree map_tree
leaf_change f g h rank = refl

pub change_tree-map : {A B : Type 0} (f : A → B) (g : A → A) (h : B → B) (same : (x : A) → h (f x) ≡ f (g x)) (t : Tree A) (rank : ℕ) → change_tree h (map_tree f t) rank ≡ map_tree f (change_tree g t rank)
change_tree-map f g h same leaf rank = leaf_change f g h rank
change_tree-map f g h same (node l x r) rank =
    let size_l = size-map_tree f l in
    elim (cases_order rank (size l)) [
      | inl here ↦
          ap (λ (t : Tree _). change_tree h t rank) (map-node f l x r)
          ∙ change-here h (map_tree f l) (f x) (map_tree f r) rank (omega arith)
          ∙ ap (λ (y : _). node (map_tree f l) y (map_tree f r)) (same x)
          ∙ sym (ap (map_tree f) (change-here g l x r rank here) ∙ map-node f l (g x) r)
      | inr (inl before) ↦
          ap (λ (t : Tree _). change_tree h t rank) (map-node f l x r)
          ∙ change-left h (map_tree f l) (f x) (map_tree f r) rank (omega arith)
          ∙ ap (λ (t : Tree _). node t (f x) (map_tree f r)) (change_tree-map f g h same l rank)
          ∙ sym (ap (map_tree f) (change-left g l x r rank before) ∙ map-node f (change_tree g l rank) x r)
      | inr (inr after) ↦
          ap (λ (t : Tree _). change_tree h t rank) (map-node f l x r)
          ∙ change-right h (map_tree f l) (f x) (map_tree f r) rank (omega arith)
          ∙ ap (λ (n : ℕ). node (map_tree f l) (f x) (change_tree h (map_tree f r) (rank - suc n))) size_l
          ∙ ap (λ (t : Tree _). node (map_tree f l) (f x) t) (change_tree-map f g h same r (rank - suc (size l)))
          ∙ sym (ap (map_tree f) (change-right g l x r rank after) ∙ map-node f l x (change_tree g r (rank - suc (size l))))
    ]

first_or-map : {A B : Type 0} (f : A → B) (x : A) (t : Tree A) → first_or (f x) (map_tree f t) ≡ f (first_or x t)
unfolding first_or map_tree
first_or-map f x leaf = refl
first_or-map f x (node l y r) = first_or-map f y l

without_first-map : {A B : Type 0} (f : A → B) (l : Tree A) (x : A) (r : Tree A) → without_first (map_tree f l) (f x) (map_tree f r) ≡ map_tree f (without_first l x r)
unfolding without_first map_tree
without_first-map f leaf x r = refl
without_first-map f (node a y b) x r = ap (λ (t : Tree _). node t (f x) (map_tree f r)) (without_first-map f a y b)

joined-map : {A B : Type 0} (f : A → B) (l r : Tree A) → joined (map_tree f l) (map_tree f r) ≡ map_tree f (joined l r)
unfolding joined map_tree
joined-map f leaf r = refl
joined-map f (node a y b) leaf = refl
joined-map f (node a y b) (node c z d) =
    ap₂ (λ (x : _) (t : Tree _). node (node (map_tree f a) (f y) (map_tree f b)) x t) (first_or-map f z c) (without_first-map f c z d)

leaf_remove : {A B : Type 0} (f : A → B) (rank : ℕ) → remove_tree (map_tree f leaf) rank ≡ map_tree f (remove_tree leaf rank)
unfolding remove_tree map_tree
leaf_remove f rank = refl

pub remove_tree-map : {A B : Type 0} (f : A → B) (t : Tree A) (rank : ℕ) → remove_tree (map_tree f t) rank ≡ map_tree f (remove_tree t rank)
remove_tree-map f leaf rank = leaf_remove f rank
remove_tree-map f (node l x r) rank =
    let size_l = size-map_tree f l in
    elim (cases_order rank (size l)) [
      | inl here ↦
          ap (λ (t : Tree _). remove_tree t rank) (map-node f l x r)
          ∙ remove-here (map_tree f l) (f x) (map_tree f r) rank (omega arith)
          ∙ joined-map f l r
          ∙ sym (ap (map_tree f) (remove-here l x r rank here))
      | inr (inl before) ↦
          ap (λ (t : Tree _). remove_tree t rank) (map-node f l x r)
          ∙ remove-left (map_tree f l) (f x) (map_tree f r) rank (omega arith)
          ∙ ap (λ (t : Tree _). node t (f x) (map_tree f r)) (remove_tree-map f l rank)
          ∙ sym (ap (map_tree f) (remove-left l x r rank before) ∙ map-node f (remove_tree l rank) x r)
      | inr (inr after) ↦
          ap (λ (t : Tree _). remove_tree t rank) (map-node f l x r)
          ∙ remove-right (map_tree f l) (f x) (map_tree f r) rank (omega arith)
          ∙ ap (λ (n : ℕ). node (map_tree f l) (f x) (remove_tree (map_tree f r) (rank - suc n))) size_l
          ∙ ap (λ (t : Tree _). node (map_tree f l) (f x) t) (remove_tree-map f r (rank - suc (size l)))
          ∙ sym (ap (map_tree f) (remove-right l x r rank after) ∙ map-node f l x (remove_tree r (rank - suc (size l))))
    ]

-- ---- the items

pub live_items-map : {B C : Type 0} (f : B → C) (xs : List (Item B)) → live_items (map (map_item f) xs) ≡ map (map_item f) (live_items xs)
unfolding map_item
live_items-map f [] = live_items-nil ∙ ap (λ (ys : List _). map (map_item f) ys) (sym live_items-nil)
live_items-map f (x ∷ xs) =
    elim (cases_lt 0 x.count) [
      | inl some ↦
          live_items-yes (map_item f x) (map (map_item f) xs) some
          ∙ ap (λ (ys : List _). map_item f x ∷ ys) (live_items-map f xs)
          ∙ ap (λ (ys : List _). map (map_item f) ys) (sym (live_items-yes x xs some))
      | inr none ↦
          live_items-no (map_item f x) (map (map_item f) xs) none
          ∙ live_items-map f xs
          ∙ ap (λ (ys : List _). map (map_item f) ys) (sym (live_items-no x xs none))
    ]

pub live-map : {B C : Type 0} (f : B → C) (xs : List (Item B)) → live (map (map_item f) xs) ≡ live xs
unfolding live
live-map f xs = ap length (live_items-map f xs) ∙ length-map (live_items xs) (map_item f)

pub live-map_tree : {B C : Type 0} (f : B → C) (t : Tree (Item B)) → live (inorder (map_tree (map_item f) t)) ≡ live (inorder t)
live-map_tree f t = ap live (inorder-map_tree (map_item f) t) ∙ live-map f (inorder t)

pub is_sparse-map : {B C : Type 0} (f : B → C) (most : ℕ) (t : Tree (Item B)) → is_sparse most (inorder (map_tree (map_item f) t)) ≡ is_sparse most (inorder t)
unfolding is_sparse
is_sparse-map f most t = ap (λ (n : ℕ). ltb (3 * n) (2 * most)) (live-map_tree f t)

pub is_dead-map : {B C : Type 0} (f : B → C) (xs : List (Item B)) (rank : ℕ) → is_dead (slice_get (map (map_item f) xs) rank) ≡ is_dead (slice_get xs rank)
unfolding is_dead has_rows map_item
is_dead-map f [] rank = refl
is_dead-map f (x ∷ xs) zero = refl
is_dead-map f (x ∷ xs) (suc rank) = is_dead-map f xs rank

-- ---- the operations

-- a column of these parts
abbrev pub column : {B : Type 0} → Tree (Item B) → ℕ → Column B
column t most = record { tree = t; most = most }

whole-map : {B C : Type 0} (f : B → C) (t : Tree (Item B)) → whole (map_tree (map_item f) t) ≡ map_tree (map_item f) (whole t)
unfolding whole
whole-map f t =
    ap (λ (xs : List _). balanced (live_items xs)) (inorder-map_tree (map_item f) t)
    ∙ ap balanced (live_items-map f (inorder t))
    ∙ balanced-map (map_item f) (live_items (inorder t))

shrunk-map : {B C : Type 0} (f : B → C) (b : Bool) (t : Tree (Item B)) (most : ℕ) → shrunk b (map_tree (map_item f) t) most ≡ map_column f (shrunk b t most)
unfolding shrunk map_column
shrunk-map f true t most = ap₂ column (whole-map f t) (live-map_tree f t)
shrunk-map f false t most = refl

taken_out-map : {B C : Type 0} (f : B → C) (b : Bool) (t : Tree (Item B)) (rank : ℕ) → taken_out b (map_tree (map_item f) t) rank ≡ map_tree (map_item f) (taken_out b t rank)
unfolding taken_out
taken_out-map f true t rank = remove_tree-map (map_item f) t rank
taken_out-map f false t rank = refl

one_less-map : {B C : Type 0} (f : B → C) (x : Item B) → one_less (map_item f x) ≡ map_item f (one_less x)
unfolding one_less map_item
one_less-map f x = refl

one_more-map : {B C : Type 0} (f : B → C) (x : Item B) → one_more (map_item f x) ≡ map_item f (one_more x)
unfolding one_more map_item
one_more-map f x = refl

new_item-map : {B C : Type 0} (f : B → C) (b : B) → new_item (f b) ≡ map_item f (new_item b)
unfolding new_item map_item
new_item-map f b = refl

fewer-map : {B C : Type 0} (f : B → C) (same_time : Bool) (t : Tree (Item B)) (rank : ℕ) → fewer same_time (map_tree (map_item f) t) rank ≡ map_tree (map_item f) (fewer same_time t rank)
unfolding fewer
fewer-map f same_time t rank =
    let u = change_tree one_less t rank in
    ap (λ (v : Tree _). taken_out (same_time && is_dead (slice_get (inorder v) rank)) v rank) (change_tree-map (map_item f) one_less one_less (one_less-map f) t rank)
    ∙ ap (λ (b : Bool). taken_out (same_time && b) (map_tree (map_item f) u) rank)
    (ap (λ (xs : List _). is_dead (slice_get xs rank)) (inorder-map_tree (map_item f) u) ∙ is_dead-map f (inorder u) rank)
    ∙ taken_out-map f (same_time && is_dead (slice_get (inorder u) rank)) u rank

pruned-map : {B C : Type 0} (f : B → C) (t : Tree (Item B)) (most : ℕ) → pruned (map_tree (map_item f) t) most ≡ map_column f (pruned t most)
unfolding pruned
pruned-map f t most =
    ap (λ (b : Bool). shrunk b (map_tree (map_item f) t) most) (is_sparse-map f most t)
    ∙ shrunk-map f (is_sparse most (inorder t)) t most

add-map : {B C : Type 0} (f : B → C) (p : Place) (b : B) (c : Column B) → add p (f b) (map_column f c) ≡ map_column f (add p b c)
unfolding add map_column
add-map f (Found rank) b c = ap (λ (t : Tree _). column t c.most) (change_tree-map (map_item f) one_more one_more (one_more-map f) c.tree rank)
add-map f (Gap rank) b c =
    let size_is = size-map_tree (map_item f) c.tree in
    ap₂ (λ (m : ℕ) (x : Item _). column (insert_tree m rank x (map_tree (map_item f) c.tree)) m) (ap (λ (n : ℕ). max c.most (suc n)) size_is) (new_item-map f b)
    ∙ ap (λ (t : Tree _). column t (max c.most (suc (size c.tree)))) (insert_tree-map (map_item f) (max c.most (suc (size c.tree))) rank (new_item b) c.tree)

drop-map : {B C : Type 0} (f : B → C) (same_time : Bool) (rank : ℕ) (c : Column B) → drop_one same_time rank (map_column f c) ≡ map_column f (drop_one same_time rank c)
unfolding drop_one map_column
drop-map f same_time rank c =
    ap (λ (t : Tree _). pruned t c.most) (fewer-map f same_time c.tree rank) ∙ pruned-map f (fewer same_time c.tree rank) c.most

lay-map : {B C : Type 0} (f : B → C) (c : Column B) → lay (map_column f c) ≡ map_column f (lay c)
unfolding lay map_column
lay-map f c =
    ap₂ column (ap balanced (inorder-map_tree (map_item f) c.tree) ∙ balanced-map (map_item f) (inorder c.tree)) (size-map_tree (map_item f) c.tree)

pub apply-map : {B C : Type 0} (f : B → C) (same_time : Bool) (operation : Operation B) (c : Column B) → apply same_time (map_operation f operation) (map_column f c) ≡ map_column f (apply same_time operation c)
unfolding apply map_operation
apply-map f same_time (Add p b) c = add-map f p b c
apply-map f same_time (Drop rank) c = drop-map f same_time rank c
apply-map f same_time Lay c = lay-map f c

pub apply_all-map : {B C : Type 0} (f : B → C) (same_time : Bool) (operations : List (Operation B)) (c : Column B) → apply_all same_time (map (map_operation f) operations) (map_column f c) ≡ map_column f (apply_all same_time operations c)
unfolding apply_all
apply_all-map f same_time [] c = refl
apply_all-map f same_time (operation ∷ operations) c =
    ap (λ (d : Column _). apply_all same_time (map (map_operation f) operations) d) (apply-map f same_time operation c)
    ∙ apply_all-map f same_time operations (apply same_time operation c)
