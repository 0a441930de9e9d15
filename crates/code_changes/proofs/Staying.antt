-- Operations after which each item stays at its rank: one row more of a found item, one row fewer without a rebuild, and a balanced tree.
use Rattle.std.proofs.Common.{◌≡◌, ℕ, suc, zero, ◌-◌, ◌<◌, Bool, true, false, ◌||◌, eqb, List, [], ◌∷◌, length, map, Option, Some, None, refl, ap, ap₂, ◌∙◌, sym, arith, append-nil}
use Rattle.std.specs.List.{range_with_len}
use Rattle.std.proofs.lemmas.List.FromFn.{length-range_with_len, length-map-range_with_len}
use Rattle.tree_model.specs.declared.Side.{Side}
use Rattle.tree_model.specs.declared.Side.TheVariants.{Left, Right}
use Rattle.tree_model.specs.declared.Place.{Place}
use Rattle.tree_model.specs.declared.Place.TheVariants.{Found}
use Rattle.tree_model.specs.Trees.{Tree, leaf, node, inorder, size, map_tree, path, turn_at}
use Rattle.tree_model.specs.Places.{holds}
use Rattle.tree_model.specs.Items.{Item, one_more, one_less, change_at, add_item, drop_item, is_sparse, swept}
use Rattle.tree_model.specs.Removal.{by_side, change_tree}
use Rattle.tree_model.specs.Columns.{Column, items_of, add, taken_out, shrunk, pruned, fewer, drop_one, lay, Add, Drop, Lay, apply, apply_all, map_operation}
use Rattle.tree_model.specs.Sums.{bodies, tagged_column, blank, origins}
use Rattle.tree_model.proofs.Ways.{length-inorder}
use Rattle.tree_model.proofs.Halves.{size-balanced}
use Rattle.tree_model.proofs.Mapped.{path-map_tree}
use Rattle.tree_model.proofs.Removals.{size-change_tree}
use Rattle.tree_model.proofs.Blind.{column, change_tree-map}
use Rattle.tree_model.proofs.LiveItems.{drop_item-ordinary}
use Rattle.tree_model.proofs.Kept.{items-add, items-lay, items-drop, inorder-fewer}
use Rattle.tree_model.proofs.Summed.{origins-nothing}
use Rattle.path_code.specs.Codes.{code_of}
use Rattle.tree_model.specs.Carried.{is_origin}
use Rattle.path_code.specs.Sums.{item_code, moved_codes, added_codes, dropped_codes, sum_by_origins, sum_of}
use Rattle.path_code.proofs.Sums.{added-none, dropped-none}
use Rattle.code_changes.specs.Changes.{differing, with_rows}
use Rattle.code_changes.specs.Columns.{codes_of, counts_of, raised, lowered}
use Rattle.code_changes.specs.Laws.{StaysWith, LaysCodes}
use Rattle.code_changes.proofs.Lists.{holds-ranks}
use Rattle.code_changes.proofs.Pairs.{differing-itself}
use Rattle.code_changes.proofs.ItemCodes.{length-codes_of}
use Rattle.code_changes.proofs.Origins.{has_origin, marks, origin_ranks}
use Rattle.code_changes.proofs.Leading.{same_sum, moved-marks}
use Rattle.code_changes.proofs.Counts.{counts, counts_of-items, counts-less, counts-tagged, counts_of-found, counts_of-lay, is_sparse-counts, bodies-less, bodies-more}

-- ---- origins without new items

pub origin_ranks-all : (ranks : List ℕ) → origin_ranks (map Some ranks) ≡ ranks
unfolding origin_ranks
origin_ranks-all [] = refl
origin_ranks-all (k ∷ ranks) = ap (λ (ks : List ℕ). k ∷ ks) (origin_ranks-all ranks)

pub with-all : {A : Type 0} (ranks : List ℕ) (xs : List A) → length ranks ≡ length xs → with_rows (marks (map Some ranks)) xs ≡ xs
unfolding marks has_origin with_rows
with-all [] [] many = refl
with-all [] (x ∷ xs) many = absurd (omega arith)
with-all (k ∷ ranks) [] many = absurd (omega arith)
with-all (k ∷ ranks) (x ∷ xs) many = ap (λ (ys : List _). x ∷ ys) (with-all ranks xs (omega arith))

pub is_origin-all : (k : ℕ) (ranks : List ℕ) → is_origin k (map Some ranks) ≡ holds k ranks
unfolding is_origin holds
is_origin-all k [] = refl
is_origin-all k (j ∷ ranks) = ap (λ (b : Bool). eqb j k || b) (is_origin-all k ranks)

pub added-all : {B : Type 0} (u : Tree B) (ranks : List ℕ) → added_codes u 0 (map Some ranks) ≡ []
unfolding added_codes
added-all u ranks = ap (added_codes u 0) (sym (append-nil (map Some ranks))) ∙ added-none u 0 ranks []

pub dropped-all : {A : Type 0} (t : Tree A) (from : List (Option ℕ)) → ((k : ℕ) → k < size t → is_origin k from ≡ true) → dropped_codes t from (range_with_len 0 (size t)) ≡ []
dropped-all t from each = dropped-none t from 0 (size t) (λ k le lt. each k (omega arith))

pub moved-all : {A B : Type 0} (t : Tree A) (u : Tree B) → size u ≡ size t → moved_codes t u 0 (map Some (range_with_len 0 (size t))) ≡ differing (codes_of t) (codes_of u)
unfolding codes_of
moved-all t u many =
    let ranks = range_with_len 0 (size t) in
    let long = length-range_with_len 0 (size t) in
    moved-marks t u (map Some ranks) (length-map-range_with_len Some 0 (size t) ∙ sym many)
    ∙ ap₂ (λ (ks xs : List ℕ). differing (map (item_code t) ks) xs) (origin_ranks-all ranks) (with-all ranks (codes_of u) (long ∙ sym many ∙ sym (length-codes_of u)))

pub sum-all : {A B : Type 0} (t : Tree A) (u : Tree B) → size u ≡ size t → sum_by_origins t u (map Some (range_with_len 0 (size t))) ≡ record { moved = differing (codes_of t) (codes_of u); dropped = []; added = [] }
unfolding sum_by_origins
sum-all t u many =
    let from = map Some (range_with_len 0 (size t)) in
    same_sum (moved_codes t u 0 from) (differing (codes_of t) (codes_of u)) (dropped_codes t from (range_with_len 0 (size t))) [] (added_codes u 0 from) []
    (moved-all t u many)
    (dropped-all t from (λ k lt. is_origin-all k (range_with_len 0 (size t)) ∙ holds-ranks k 0 (size t) (omega arith) (omega arith)))
    (added-all u (range_with_len 0 (size t)))

-- where codes stay too, nothing changes
pub sum-nothing : {A B : Type 0} (t : Tree A) (u : Tree B) → size u ≡ size t → codes_of u ≡ codes_of t → sum_by_origins t u (map Some (range_with_len 0 (size t))) ≡ record { moved = []; dropped = []; added = [] }
sum-nothing t u many same =
    sum-all t u many
    ∙ same_sum (differing (codes_of t) (codes_of u)) [] [] [] [] [] (ap (differing (codes_of t)) same ∙ differing-itself (codes_of t)) refl refl

-- ---- a changed item keeps its way

by_side-same : {A : Type 0} (o : Option Side) (x : A) → by_side o x x x ≡ x
unfolding by_side
by_side-same (Some Left) x = refl
by_side-same None x = refl
by_side-same (Some Right) x = refl

change_tree-same : {A : Type 0} (t : Tree A) (rank : ℕ) → change_tree (λ (x : A). x) t rank ≡ t
unfolding change_tree
change_tree-same leaf rank = refl
change_tree-same {A} (node l x r) rank =
    let o = turn_at (size l) (Found rank) in
    ap₂ (λ (a b : Tree A). by_side o (node a x r) (node l x r) (node l x b)) (change_tree-same l rank) (change_tree-same r (rank - suc (size l)))
    ∙ by_side-same o (node l x r)

pub path-change_tree : {A : Type 0} (f : A → A) (t : Tree A) (rank : ℕ) (p : Place) → path (change_tree f t rank) p ≡ path t p
path-change_tree {A} f t rank p =
    let erase = λ (x : A). zero in
    sym (path-map_tree erase (change_tree f t rank) p)
    ∙ ap (λ (u : Tree ℕ). path u p) (sym (change_tree-map erase f (λ (n : ℕ). n) (λ x. refl) t rank) ∙ change_tree-same (map_tree erase t) rank)
    ∙ path-map_tree erase t p

pub item_code-change_tree : {A : Type 0} (f : A → A) (t : Tree A) (rank k : ℕ) → item_code (change_tree f t rank) k ≡ item_code t k
unfolding item_code
item_code-change_tree f t rank k = ap code_of (path-change_tree f t rank (Found k))

map-same : {A : Type 0} (f g : ℕ → A) (xs : List ℕ) → ((n : ℕ) → f n ≡ g n) → map f xs ≡ map g xs
map-same f g [] same = refl
map-same f g (x ∷ xs) same = ap₂ (λ (y : _) (ys : List _). y ∷ ys) (same x) (map-same f g xs same)

pub codes_of-change_tree : {A : Type 0} (f : A → A) (t : Tree A) (rank : ℕ) → codes_of (change_tree f t rank) ≡ codes_of t
unfolding codes_of
codes_of-change_tree f t rank =
    ap (λ (n : ℕ). map (item_code (change_tree f t rank)) (range_with_len 0 n)) (size-change_tree f t rank)
    ∙ map-same (item_code (change_tree f t rank)) (item_code t) (range_with_len 0 (size t)) (item_code-change_tree f t rank)

-- the ranks in place of the bodies
pub bodies-ranks : {B : Type 0} (c : Column B) → bodies (items_of (tagged_column c)) ≡ map Some (range_with_len 0 (size c.tree))
unfolding origins blank apply_all
bodies-ranks c = origins-nothing false c

-- ---- one row more of a found item

pub origins-found : {B : Type 0} (same_time : Bool) (rank : ℕ) (b : B) (c : Column B) → origins same_time (Add (Found rank) b ∷ []) c ≡ map Some (range_with_len 0 (size c.tree))
unfolding origins blank apply_all apply map_operation add_item
origins-found same_time rank b c =
    ap bodies (items-add (Found rank) None (tagged_column c)) ∙ bodies-more (items_of (tagged_column c)) rank ∙ origins-nothing same_time c

pub found_raises_count : {B : Type 0} (same_time : Bool) (rank : ℕ) (b : B) (c : Column B) → StaysWith B (raised (counts_of c) rank) (sum_of same_time (Add (Found rank) b ∷ []) c) c (add (Found rank) b c)
unfolding sum_of apply_all apply add
found_raises_count same_time rank b c =
    let u = change_tree one_more c.tree rank in
    let same = codes_of-change_tree one_more c.tree rank in
    record {
      codes = same;
      counts = counts_of-found rank b c;
      sum = ap (λ (from : List (Option ℕ)). sum_by_origins c.tree u from) (origins-found same_time rank b c) ∙ sum-nothing c.tree u (size-change_tree one_more c.tree rank) same;
    }

-- ---- a balanced tree

pub origins-lay : {B : Type 0} (same_time : Bool) (c : Column B) → origins same_time (Lay ∷ []) c ≡ map Some (range_with_len 0 (size c.tree))
unfolding origins blank apply_all apply map_operation
origins-lay same_time c = ap bodies (items-lay (tagged_column c)) ∙ origins-nothing same_time c

size-lay : {B : Type 0} (c : Column B) → size (lay c).tree ≡ size c.tree
unfolding lay
size-lay c = size-balanced (inorder c.tree) ∙ length-inorder c.tree

pub lay_moves_codes : {B : Type 0} (same_time : Bool) (c : Column B) → LaysCodes B (sum_of same_time (Lay ∷ []) c) c (lay c)
unfolding sum_of apply_all apply
lay_moves_codes same_time c =
    record {
      as_many = length-codes_of (lay c).tree ∙ size-lay c ∙ sym (length-codes_of c.tree);
      counts = counts_of-lay c;
      sum = ap (λ (from : List (Option ℕ)). sum_by_origins c.tree (lay c).tree from) (origins-lay same_time c) ∙ sum-all c.tree (lay c).tree (size-lay c);
    }

-- ---- one row fewer without a rebuild

-- a change at an item of the ordinary mode
pub fewer-ordinary : {B : Type 0} (t : Tree (Item B)) (rank : ℕ) → fewer false t rank ≡ change_tree one_less t rank
unfolding fewer taken_out
fewer-ordinary t rank = refl

pub drop-by : {B : Type 0} (b : Bool) (rank : ℕ) (c : Column B) → is_sparse c.most (drop_item false (items_of c) rank) ≡ b → drop_one false rank c ≡ shrunk b (change_tree one_less c.tree rank) c.most
unfolding drop_one pruned items_of
drop-by b rank c sparse =
    ap (λ (x : Bool). shrunk x (fewer false c.tree rank) c.most) (ap (is_sparse c.most) (inorder-fewer false c.tree rank) ∙ sparse)
    ∙ ap (λ (t : Tree _). shrunk b t c.most) (fewer-ordinary c.tree rank)

-- the same for the ranks in place of the bodies
pub sparse-tagged : {B : Type 0} (rank : ℕ) (c : Column B) → is_sparse (tagged_column c).most (drop_item false (items_of (tagged_column c)) rank) ≡ is_sparse c.most (drop_item false (items_of c) rank)
unfolding tagged_column
sparse-tagged rank c = is_sparse-counts c.most (drop_item false (items_of (tagged_column c)) rank) (drop_item false (items_of c) rank) (
    ap counts (drop_item-ordinary (items_of (tagged_column c)) rank)
    ∙ counts-less (items_of (tagged_column c)) rank
    ∙ ap (λ (ns : List ℕ). lowered ns rank) (counts-tagged c)
    ∙ sym (ap counts (drop_item-ordinary (items_of c) rank) ∙ counts-less (items_of c) rank))

-- the items after one row fewer
pub items-drop_by : {B : Type 0} (b : Bool) (rank : ℕ) (c : Column B) → is_sparse c.most (drop_item false (items_of c) rank) ≡ b → items_of (drop_one false rank c) ≡ swept b (change_at one_less (items_of c) rank)
items-drop_by b rank c sparse =
    items-drop false rank c ∙ ap₂ swept sparse (drop_item-ordinary (items_of c) rank)

pub origins-drop_by : {B : Type 0} (b : Bool) (rank : ℕ) (c : Column B) → is_sparse c.most (drop_item false (items_of c) rank) ≡ b → origins false (Drop rank ∷ []) c ≡ bodies (swept b (change_at one_less (items_of (tagged_column c)) rank))
unfolding origins blank apply_all apply map_operation
origins-drop_by b rank c sparse = ap bodies (items-drop_by b rank (tagged_column c) (sparse-tagged rank c ∙ sparse))

swept-none : {B : Type 0} (items : List (Item B)) → swept false items ≡ items
unfolding swept
swept-none items = refl

kept-column : {B : Type 0} (t : Tree (Item B)) (most : ℕ) → shrunk false t most ≡ column t most
unfolding shrunk
kept-column t most = refl

-- where the tree isn't balanced whole, each item stays
origins-kept : {B : Type 0} (rank : ℕ) (c : Column B) → is_sparse c.most (drop_item false (items_of c) rank) ≡ false → origins false (Drop rank ∷ []) c ≡ map Some (range_with_len 0 (size c.tree))
origins-kept rank c sparse =
    origins-drop_by false rank c sparse ∙ ap bodies (swept-none (change_at one_less (items_of (tagged_column c)) rank)) ∙ bodies-less (items_of (tagged_column c)) rank ∙ bodies-ranks c

counts-kept : {B : Type 0} (rank : ℕ) (c : Column B) → is_sparse c.most (drop_item false (items_of c) rank) ≡ false → counts_of (drop_one false rank c) ≡ lowered (counts_of c) rank
counts-kept rank c sparse =
    counts_of-items (drop_one false rank c)
    ∙ ap counts (items-drop_by false rank c sparse ∙ swept-none (change_at one_less (items_of c) rank))
    ∙ counts-less (items_of c) rank
    ∙ ap (λ (ns : List ℕ). lowered ns rank) (sym (counts_of-items c))

pub drop_lowers_count : {B : Type 0} (rank : ℕ) (c : Column B) → is_sparse c.most (drop_item false (items_of c) rank) ≡ false → StaysWith B (lowered (counts_of c) rank) (sum_of false (Drop rank ∷ []) c) c (drop_one false rank c)
unfolding sum_of apply_all apply
drop_lowers_count rank c sparse =
    let u = change_tree one_less c.tree rank in
    let after : drop_one false rank c ≡ column u c.most = drop-by false rank c sparse ∙ kept-column u c.most in
    let trees : (drop_one false rank c).tree ≡ u = ap (λ (d : Column _). d.tree) after in
    let same : codes_of (drop_one false rank c).tree ≡ codes_of c.tree = ap codes_of trees ∙ codes_of-change_tree one_less c.tree rank in
    let many : size (drop_one false rank c).tree ≡ size c.tree = ap size trees ∙ size-change_tree one_less c.tree rank in
    record {
      codes = same;
      counts = counts-kept rank c sparse;
      sum = ap (λ (from : List (Option ℕ)). sum_by_origins c.tree (drop_one false rank c).tree from) (origins-kept rank c sparse) ∙ sum-nothing c.tree (drop_one false rank c).tree many same;
    }
