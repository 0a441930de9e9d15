-- What the operations on a column do to its items, and what they keep.
use Rattle.std.proofs.Common.{◌≡◌, ℕ, suc, ◌+◌, ◌-◌, ◌*◌, ◌^◌, ◌<◌, ◌≤◌, max, Bool, true, false, ◌&&◌, List, [], ◌∷◌, length, slice_get, refl, ap, ◌∙◌, sym, subst, inl, inr, arith}
use Rattle.std.proofs.lemmas.Bool.{cases_lt}
use Rattle.tree_model.specs.declared.Place.{Place}
use Rattle.tree_model.specs.declared.Place.TheVariants.{Found, Gap}
use Rattle.tree_model.specs.Trees.{Tree, leaf, node, inorder, size, height, path, past, balanced}
use Rattle.tree_model.specs.Places.{number}
use Rattle.tree_model.specs.Items.{Item, new_item, one_more, one_less, add_item, live_items, live, is_dead, gone, drop_item, is_sparse, swept}
use Rattle.tree_model.specs.Balance.{limit}
use Rattle.tree_model.specs.Removal.{change_tree}
use Rattle.tree_model.specs.Columns.{Column, empty_column, items_of, whole, add, taken_out, shrunk, pruned, fewer, drop_one, lay, Operation, Add, Drop, Lay, apply, apply_all}
use Rattle.tree_model.specs.ColumnLaws.{IsKept, apply_mixed, IsWithinDepth, DepthsBySize}
use Rattle.tree_model.proofs.Ways.{length-inorder, length-path, length-path_found, path-left, path-here, path-right}
use Rattle.tree_model.proofs.Halves.{inorder-balanced, size-balanced, height-balanced}
use Rattle.tree_model.proofs.Limits.{past_limit, limit-le, limit-unique, few_for_depth}
use Rattle.tree_model.proofs.Depths.{inorder-insert_tree, size-insert_tree, height-insert_tree}
use Rattle.tree_model.proofs.Removals.{inorder-change_tree, size-change_tree, height-change_tree, inorder-remove_tree, height-remove_tree}
use Rattle.tree_model.proofs.Changes.{length-change_at}
use Rattle.tree_model.proofs.LiveItems.{live-insert, live-one_more, live-live_items, drop_item-ordinary, length-drop_item, is_sparse-no}

-- ---- the items

pub items-add : {B : Type 0} (p : Place) (b : B) (c : Column B) → items_of (add p b c) ≡ add_item p b (items_of c)
unfolding items_of add add_item
items-add (Found rank) b c = inorder-change_tree one_more c.tree rank
items-add (Gap rank) b c = inorder-insert_tree (max c.most (suc (size c.tree))) rank (new_item b) c.tree

inorder-taken_out : {B : Type 0} (b : Bool) (t : Tree (Item B)) (rank : ℕ) → inorder (taken_out b t rank) ≡ gone b (inorder t) rank
unfolding taken_out gone
inorder-taken_out true t rank = inorder-remove_tree t rank
inorder-taken_out false t rank = refl

pub inorder-fewer : {B : Type 0} (same_time : Bool) (t : Tree (Item B)) (rank : ℕ) → inorder (fewer same_time t rank) ≡ drop_item same_time (inorder t) rank
unfolding fewer drop_item
inorder-fewer same_time t rank =
    inorder-taken_out (same_time && is_dead (slice_get (inorder (change_tree one_less t rank)) rank)) (change_tree one_less t rank) rank
    ∙ ap (λ (xs : List _). gone (same_time && is_dead (slice_get xs rank)) xs rank) (inorder-change_tree one_less t rank)

pub inorder-whole : {B : Type 0} (t : Tree (Item B)) → inorder (whole t) ≡ live_items (inorder t)
unfolding whole
inorder-whole t = inorder-balanced (live_items (inorder t))

items-shrunk : {B : Type 0} (b : Bool) (t : Tree (Item B)) (most : ℕ) → items_of (shrunk b t most) ≡ swept b (inorder t)
unfolding items_of shrunk swept
items-shrunk true t most = inorder-whole t
items-shrunk false t most = refl

pub items-drop : {B : Type 0} (same_time : Bool) (rank : ℕ) (c : Column B) → items_of (drop_one same_time rank c) ≡ swept (is_sparse c.most (drop_item same_time (items_of c) rank)) (drop_item same_time (items_of c) rank)
unfolding drop_one pruned items_of
items-drop same_time rank c =
    items-shrunk (is_sparse c.most (inorder (fewer same_time c.tree rank))) (fewer same_time c.tree rank) c.most
    ∙ ap (λ (xs : List _). swept (is_sparse c.most xs) xs) (inorder-fewer same_time c.tree rank)

pub items-lay : {B : Type 0} (c : Column B) → items_of (lay c) ≡ items_of c
unfolding items_of lay
items-lay c = inorder-balanced (inorder c.tree)

-- ---- depths of items and the height

has_items : {A : Type 0} (t : Tree A) → 0 < height t → 0 < size t
unfolding height size
has_items leaf h = omega arith
has_items (node l x r) h = omega arith

-- a tree with items has one at the end of a longest way
pub deepest_item : {A : Type 0} (t : Tree A) → 0 < size t → (rank : ℕ) × (rank < size t) × (suc (length (path t (Found rank))) ≡ height t)
unfolding size height number past
deepest_item leaf h = absurd (omega arith)
deepest_item (node l x r) h =
    elim (cases_lt (height l) (height r)) [
      | inl lower ↦
          let right = deepest_item r (has_items r (omega arith)) in
          let back : right.0 + suc (size l) - suc (size l) ≡ right.0 = omega arith in
          (right.0 + suc (size l), omega (arith, right.1), rw (path-right l x r (Found (right.0 + suc (size l))) (omega arith), back) (omega (arith, right.2)))
      | inr higher ↦ elim (cases_lt 0 (height l)) [
        | inl some ↦
            let left = deepest_item l (has_items l some) in
            (left.0, omega (arith, left.1), rw (path-left l x r (Found left.0) (omega (arith, left.1))) (omega (arith, left.2)))
        | inr none ↦ (size l, omega arith, rw (path-here l x r (Found (size l)) (omega arith)) (omega arith))
      ]
    ]

pub height-from_items : {A : Type 0} (t : Tree A) (n : ℕ) → ((rank : ℕ) → rank < size t → length (path t (Found rank)) ≤ n) → height t ≤ suc n
height-from_items t n shallow =
    elim (cases_lt 0 (height t)) [
      | inl some ↦ let deep = deepest_item t (has_items t some) in omega (arith, deep.2, shallow deep.0 deep.1)
      | inr none ↦ omega arith
    ]

pub items-from_height : {A : Type 0} (t : Tree A) (n : ℕ) → height t ≤ suc n → (rank : ℕ) → rank < size t → length (path t (Found rank)) ≤ n
items-from_height t n high rank within = omega (arith, length-path_found t rank within)

-- a balanced tree is within the limit of its own number of items
pub height-balanced_limit : {A : Type 0} (xs : List A) → height (balanced xs) ≤ suc (limit (length xs))
height-balanced_limit xs =
    let n = length xs in
    height-balanced xs (suc (limit n)) (few_for_depth n (suc (limit n)) (past_limit n (suc (limit n)) (omega arith)))

-- ---- what each operation keeps

-- the same with the height in place of the items' depths
record Holds (B : Type 0) (c : Column B) : Type 0 where
  high : height c.tree ≤ suc (limit c.most)
  dense : 2 * c.most ≤ 3 * live (items_of c)
  fits : size c.tree ≤ c.most

IsKept-by_height : {B : Type 0} (c : Column B) → Holds B c → IsKept B c
IsKept-by_height c h = record { shallow = items-from_height c.tree (limit c.most) h.high; dense = h.dense; fits = h.fits }

pub IsKept-high : {B : Type 0} (c : Column B) → IsKept B c → height c.tree ≤ suc (limit c.most)
IsKept-high c k = height-from_items c.tree (limit c.most) k.shallow

pub new_item-live : {B : Type 0} (b : B) → 0 < (new_item b).count
unfolding new_item
new_item-live b = omega arith

pub IsKept-add : {B : Type 0} (p : Place) (b : B) (c : Column B) → IsKept B c → IsKept B (add p b c)
unfolding add items_of
IsKept-add (Found rank) b c k =
    let same = size-change_tree one_more c.tree rank in
    let items = inorder-change_tree one_more c.tree rank in
    IsKept-by_height (add (Found rank) b c) (record {
      high = omega (arith, IsKept-high c k, height-change_tree one_more c.tree rank);
      dense = omega (arith, ap live items, live-one_more (inorder c.tree) rank, k.dense);
      fits = omega (arith, k.fits);
    })
IsKept-add (Gap rank) b c k =
    let most = max c.most (suc (size c.tree)) in
    let items = inorder-insert_tree most rank (new_item b) c.tree in
    let one = size-insert_tree most rank (new_item b) c.tree in
    let more = ap live items ∙ live-insert (inorder c.tree) rank (new_item b) (new_item-live b) in
    IsKept-by_height (add (Gap rank) b c) (record {
      high = height-insert_tree most rank (new_item b) c.tree (omega arith) (omega (arith, IsKept-high c k, limit-le c.most most (omega arith)));
      dense = omega (arith, k.dense, k.fits);
      fits = omega arith;
    })

height-taken_out : {B : Type 0} (b : Bool) (t : Tree (Item B)) (rank : ℕ) → height (taken_out b t rank) ≤ height t
unfolding taken_out
height-taken_out true t rank = height-remove_tree t rank
height-taken_out false t rank = omega arith

pub height-fewer : {B : Type 0} (same_time : Bool) (t : Tree (Item B)) (rank : ℕ) → height (fewer same_time t rank) ≤ height t
unfolding fewer
height-fewer same_time t rank =
    omega (arith, height-taken_out (same_time && is_dead (slice_get (inorder (change_tree one_less t rank)) rank)) (change_tree one_less t rank) rank, height-change_tree one_less t rank)

pub size-fewer : {B : Type 0} (same_time : Bool) (t : Tree (Item B)) (rank : ℕ) → size (fewer same_time t rank) ≤ size t
size-fewer same_time t rank =
    omega (arith, length-inorder (fewer same_time t rank), length-inorder t, ap length (inorder-fewer same_time t rank), length-drop_item same_time (inorder t) rank)

pub size-fewer_ordinary : {B : Type 0} (t : Tree (Item B)) (rank : ℕ) → size (fewer false t rank) ≡ size t
size-fewer_ordinary t rank =
    sym (length-inorder (fewer false t rank)) ∙ ap length (inorder-fewer false t rank ∙ drop_item-ordinary (inorder t) rank) ∙ length-change_at one_less (inorder t) rank ∙ length-inorder t

pub size-whole : {B : Type 0} (t : Tree (Item B)) → size (whole t) ≡ live (inorder t)
unfolding whole live
size-whole t = size-balanced (live_items (inorder t))

height-whole : {B : Type 0} (t : Tree (Item B)) → height (whole t) ≤ suc (limit (live (inorder t)))
unfolding whole live
height-whole t = height-balanced_limit (live_items (inorder t))

live_is : {B : Type 0} (t : Tree (Item B)) → length (live_items (inorder t)) ≡ live (inorder t)
unfolding live
live_is t = refl

-- a tree of so many items, kept or made whole
IsKept-shrunk : {B : Type 0} (b : Bool) (t : Tree (Item B)) (most : ℕ) → is_sparse most (inorder t) ≡ b → height t ≤ suc (limit most) → size t ≤ most → IsKept B (shrunk b t most)
unfolding shrunk items_of
IsKept-shrunk true t most sparse high fits =
    let items = inorder-whole t in
    let many = ap live items ∙ live-live_items (inorder t) in
    let size_is = size-whole t in
    IsKept-by_height (shrunk true t most) (record {
      high = height-whole t;
      dense = omega (arith, many, live_is t);
      fits = omega arith;
    })
IsKept-shrunk false t most sparse high fits =
    IsKept-by_height (shrunk false t most) (record { high = high; dense = is_sparse-no most (inorder t) sparse; fits = fits })

pub IsKept-drop : {B : Type 0} (same_time : Bool) (rank : ℕ) (c : Column B) → IsKept B c → IsKept B (drop_one same_time rank c)
unfolding drop_one pruned
IsKept-drop same_time rank c k =
    let t = fewer same_time c.tree rank in
    IsKept-shrunk (is_sparse c.most (inorder t)) t c.most refl
    (omega (arith, height-fewer same_time c.tree rank, IsKept-high c k))
    (omega (arith, size-fewer same_time c.tree rank, k.fits))

pub IsKept-lay : {B : Type 0} (c : Column B) → IsKept B c → IsKept B (lay c)
unfolding lay items_of
IsKept-lay c k =
    let items = inorder-balanced (inorder c.tree) in
    let size_is = size-balanced (inorder c.tree) in
    let len = length-inorder c.tree in
    let high = height-balanced_limit (inorder c.tree) in
    IsKept-by_height (lay c) (record {
      high = subst (λ (n : ℕ). height (balanced (inorder c.tree)) ≤ suc (limit n)) len high;
      dense = omega (arith, ap live items, k.dense, k.fits);
      fits = omega arith;
    })

pub IsKept-apply : {B : Type 0} (same_time : Bool) (operation : Operation B) (c : Column B) → IsKept B c → IsKept B (apply same_time operation c)
unfolding apply
IsKept-apply same_time (Add p b) c k = IsKept-add p b c k
IsKept-apply same_time (Drop rank) c k = IsKept-drop same_time rank c k
IsKept-apply same_time Lay c k = IsKept-lay c k

pub IsKept-apply_mixed : {B : Type 0} (operations : List (Bool × Operation B)) (c : Column B) → IsKept B c → IsKept B (apply_mixed operations c)
unfolding apply_mixed
IsKept-apply_mixed [] c k = k
IsKept-apply_mixed (moded ∷ operations) c k = IsKept-apply_mixed operations (apply moded.0 moded.1 c) (IsKept-apply moded.0 moded.1 c k)

pub IsKept-apply_all : {B : Type 0} (same_time : Bool) (operations : List (Operation B)) (c : Column B) → IsKept B c → IsKept B (apply_all same_time operations c)
unfolding apply_all
IsKept-apply_all same_time [] c k = k
IsKept-apply_all same_time (operation ∷ operations) c k = IsKept-apply_all same_time operations (apply same_time operation c) (IsKept-apply same_time operation c k)

pub IsKept-empty : (B : Type 0) → IsKept B (empty_column B)
unfolding empty_column items_of inorder size
IsKept-empty B = record { shallow = λ rank h. absurd (omega arith); dense = omega arith; fits = omega arith }

-- ---- how deep items and gaps stand

pub within-height : {A : Type 0} (t : Tree A) (depth : ℕ) → height t ≤ suc depth → IsWithinDepth A t depth
within-height t depth high =
    record { items = items-from_height t depth high; gaps = λ rank. omega (arith, length-path t (Gap rank)) }

pub depths_are_limited : {B : Type 0} (c : Column B) → IsKept B c → IsWithinDepth (Item B) c.tree (limit c.most)
depths_are_limited c k = within-height c.tree (limit c.most) (IsKept-high c k)

-- where so many items have the limit d
pub IsKept-within : {B : Type 0} (c : Column B) (many d : ℕ) → IsKept B c → c.most ≤ many → 0 < many → 3 ^ d ≤ many * 2 ^ d → many * 2 ^ suc d < 3 ^ suc d → height c.tree ≤ suc d
IsKept-within c many d k few some low high = omega (arith, IsKept-high c k, limit-le c.most many few, limit-unique many d some low high)

-- the ways of a column of at most 2^32 items
pub IsKept-short : {B : Type 0} (c : Column B) → IsKept B c → c.most ≤ 2 ^ 32 → height c.tree ≤ 63
IsKept-short c k few = omega (arith, IsKept-within c (2 ^ 32) 54 k few (omega arith) (omega arith) (omega arith))

pub depths_follow_size : {B : Type 0} (c : Column B) → IsKept B c → DepthsBySize B c
depths_follow_size c k =
    record {
      any = λ few. within-height c.tree 62 (omega (arith, IsKept-short c k (omega (arith, few))));
      many = λ few. within-height c.tree 28 (IsKept-within c 98304 28 k few (omega arith) (omega arith) (omega arith));
      more = λ few. within-height c.tree 35 (IsKept-within c 1572864 35 k few (omega arith) (omega arith) (omega arith));
    }
