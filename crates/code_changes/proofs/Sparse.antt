-- One row fewer where too few items are live: the live ones stay in order, and the others go.
use Rattle.std.proofs.Common.{◌≡◌, ℕ, suc, zero, ◌-◌, Bool, true, false, eq-eqb, List, [], ◌∷◌, length, map, Option, Some, refl, ap, ap₂, ◌∙◌, sym, arith}
use Rattle.std.specs.List.{range_with_len}
use Rattle.std.proofs.lemmas.List.{length-map}
use Rattle.std.proofs.lemmas.List.FromFn.{length-range_with_len}
use Rattle.tree_model.specs.Trees.{Tree, size}
use Rattle.tree_model.specs.Places.{IsIncreasing}
use Rattle.tree_model.specs.Items.{Item, one_less, change_at, live_items, drop_item, is_sparse, swept}
use Rattle.tree_model.specs.Columns.{Column, items_of, drop_one, Drop, apply, apply_all}
use Rattle.tree_model.specs.Sums.{bodies, tagged_column, origins}
use Rattle.tree_model.proofs.Ways.{length-inorder}
use Rattle.tree_model.proofs.Changes.{length-change_at}
use Rattle.tree_model.proofs.Ordered.{holds-none}
use Rattle.tree_model.proofs.Summed.{length-origins}
use Rattle.tree_model.specs.Carried.{is_origin}
use Rattle.path_code.specs.Sums.{item_code, moved_codes, added_codes, dropped_codes, sum_by_origins, sum_of}
use Rattle.code_changes.specs.Changes.{differing, with_rows, without_rows}
use Rattle.code_changes.specs.Columns.{codes_of, counts_of, lowered}
use Rattle.code_changes.specs.Laws.{KeepsLive}
use Rattle.code_changes.proofs.Lists.{map-above, ranks-up}
use Rattle.code_changes.proofs.Rows.{IsBelowAll-with, map-with}
use Rattle.code_changes.proofs.ItemCodes.{length-codes_of}
use Rattle.code_changes.proofs.Origins.{mark, stays, dropped_codes-stays, past-origin}
use Rattle.code_changes.proofs.Leading.{same_sum, moved-marks}
use Rattle.code_changes.proofs.Staying.{origin_ranks-all, with-all, is_origin-all, added-all, items-drop_by, origins-drop_by, bodies-ranks}
use Rattle.code_changes.proofs.Counts.{counts, counts_of-items, counts-less, counts-tagged, counts-live, bodies-live, bodies-less}

-- ---- the ranks of the live items stay, and no others

sign : ℕ → ℕ
sign zero = 0
sign (suc n) = 1

without-signs : {A : Type 0} (rows : List ℕ) (xs : List A) → without_rows (map sign rows) xs ≡ without_rows rows xs
unfolding sign without_rows
without-signs [] xs = refl
without-signs (n ∷ rows) [] = refl
without-signs (zero ∷ rows) (x ∷ xs) = ap (λ (ys : List _). x ∷ ys) (without-signs rows xs)
without-signs (suc n ∷ rows) (x ∷ xs) = without-signs rows xs

mark-is : (b : Bool) → b ≡ true → mark b ≡ 1
unfolding mark
mark-is b h = rw h refl

mark-not : (b : Bool) → b ≡ false → mark b ≡ 0
unfolding mark
mark-not b h = rw h refl

is_origin-first : (k : ℕ) (from : List (Option ℕ)) → is_origin k (Some k ∷ from) ≡ true
unfolding is_origin
is_origin-first k from = rw (eq-eqb k k refl) refl

stays-live : (rows ranks : List ℕ) → IsIncreasing ranks → length rows ≡ length ranks → stays (map Some (with_rows rows ranks)) ranks ≡ map sign rows
unfolding stays sign with_rows IsIncreasing
stays-live [] [] up many = refl
stays-live [] (r ∷ ranks) up many = absurd (omega arith)
stays-live (n ∷ rows) [] up many = absurd (omega arith)
stays-live (zero ∷ rows) (r ∷ ranks) up many =
    ap₂ (λ (n : ℕ) (ns : List ℕ). n ∷ ns)
    (mark-not (is_origin r (map Some (with_rows rows ranks))) (is_origin-all r (with_rows rows ranks) ∙ holds-none r (with_rows rows ranks) (IsBelowAll-with r rows ranks up.0)))
    (stays-live rows ranks up.1 (omega arith))
stays-live (suc m ∷ rows) (r ∷ ranks) up many =
    let rest = map Some (with_rows rows ranks) in
    ap₂ (λ (n : ℕ) (ns : List ℕ). n ∷ ns)
    (mark-is (is_origin r (Some r ∷ rest)) (is_origin-first r rest))
    (map-above (λ k. mark (is_origin k (Some r ∷ rest))) (λ k. mark (is_origin k rest)) r ranks up.0 (λ k lt. ap mark (past-origin k r rest (λ e. omega arith)))
    ∙ stays-live rows ranks up.1 (omega arith))

-- ---- the sum

pub sum-live : {A B : Type 0} (t : Tree A) (u : Tree B) (rows : List ℕ) → length rows ≡ size t → size u ≡ length (with_rows rows (range_with_len 0 (size t))) → sum_by_origins t u (map Some (with_rows rows (range_with_len 0 (size t)))) ≡ record { moved = differing (with_rows rows (codes_of t)) (codes_of u); dropped = without_rows rows (codes_of t); added = [] }
unfolding sum_by_origins codes_of
sum-live t u rows long many =
    let ranks = range_with_len 0 (size t) in
    let live = with_rows rows ranks in
    let from = map Some live in
    let from_long = length-map live (λ (k : ℕ). Some k) in
    let codes_long = length-codes_of u in
    same_sum (moved_codes t u 0 from) (differing (with_rows rows (codes_of t)) (codes_of u)) (dropped_codes t from ranks) (without_rows rows (codes_of t)) (added_codes u 0 from) []
    (moved-marks t u from (from_long ∙ sym many)
    ∙ ap₂ (λ (xs ys : List ℕ). differing xs ys) (ap (map (item_code t)) (origin_ranks-all live) ∙ map-with (item_code t) rows ranks) (with-all live (codes_of u) (sym many ∙ sym codes_long)))
    (dropped_codes-stays t from ranks
    ∙ ap (λ (ns : List ℕ). without_rows ns (codes_of t)) (stays-live rows ranks (ranks-up 0 (size t)) (long ∙ sym (length-range_with_len 0 (size t))))
    ∙ without-signs rows (codes_of t))
    (added-all u live)

-- ---- the law

swept-all : {B : Type 0} (items : List (Item B)) → swept true items ≡ live_items items
unfolding swept
swept-all items = refl

-- the counts that remain, told by the ranks in place of the bodies
counts-remaining : {B : Type 0} (rank : ℕ) (c : Column B) → counts (change_at one_less (items_of (tagged_column c)) rank) ≡ lowered (counts_of c) rank
counts-remaining rank c =
    counts-less (items_of (tagged_column c)) rank ∙ ap (λ (ns : List ℕ). lowered ns rank) (counts-tagged c ∙ sym (counts_of-items c))

origins-sparse : {B : Type 0} (rank : ℕ) (c : Column B) → is_sparse c.most (drop_item false (items_of c) rank) ≡ true → origins false (Drop rank ∷ []) c ≡ map Some (with_rows (lowered (counts_of c) rank) (range_with_len 0 (size c.tree)))
origins-sparse rank c sparse =
    let fewer_items = change_at one_less (items_of (tagged_column c)) rank in
    origins-drop_by true rank c sparse
    ∙ ap bodies (swept-all fewer_items)
    ∙ bodies-live fewer_items
    ∙ ap₂ (λ (ns : List ℕ) (os : List (Option ℕ)). with_rows ns os) (counts-remaining rank c) (bodies-less (items_of (tagged_column c)) rank ∙ bodies-ranks c)
    ∙ sym (map-with Some (lowered (counts_of c) rank) (range_with_len 0 (size c.tree)))

counts-sparse : {B : Type 0} (rank : ℕ) (c : Column B) → is_sparse c.most (drop_item false (items_of c) rank) ≡ true → counts_of (drop_one false rank c) ≡ with_rows (lowered (counts_of c) rank) (lowered (counts_of c) rank)
counts-sparse rank c sparse =
    let fewer_items = change_at one_less (items_of c) rank in
    let remaining : counts fewer_items ≡ lowered (counts_of c) rank = counts-less (items_of c) rank ∙ ap (λ (ns : List ℕ). lowered ns rank) (sym (counts_of-items c)) in
    counts_of-items (drop_one false rank c)
    ∙ ap counts (items-drop_by true rank c sparse ∙ swept-all fewer_items)
    ∙ counts-live fewer_items
    ∙ ap (λ (ns : List ℕ). with_rows ns ns) remaining

length-lowered : {B : Type 0} (rank : ℕ) (c : Column B) → length (lowered (counts_of c) rank) ≡ size c.tree
unfolding lowered counts_of items_of
length-lowered {B} rank c =
    length-change_at (λ (count : ℕ). count - 1) (counts_of c) rank ∙ length-map (items_of c) (λ (item : Item B). item.count) ∙ length-inorder c.tree

pub sparse_keeps_live : {B : Type 0} (rank : ℕ) (c : Column B) → is_sparse c.most (drop_item false (items_of c) rank) ≡ true → KeepsLive B (lowered (counts_of c) rank) (sum_of false (Drop rank ∷ []) c) c (drop_one false rank c)
unfolding sum_of apply_all apply codes_of
sparse_keeps_live rank c sparse =
    let t = c.tree in
    let u = (drop_one false rank c).tree in
    let rows = lowered (counts_of c) rank in
    let ranks = range_with_len 0 (size t) in
    let from = origins-sparse rank c sparse in
    let many : size u ≡ length (with_rows rows ranks) = sym (length-origins false (Drop rank ∷ []) c) ∙ ap length from ∙ length-map (with_rows rows ranks) Some in
    record {
      as_many = ap length (sym (map-with (item_code t) rows ranks)) ∙ length-map (with_rows rows ranks) (item_code t) ∙ sym many ∙ sym (length-codes_of u);
      counts = counts-sparse rank c sparse;
      sum = ap (λ (o : List (Option ℕ)). sum_by_origins t u o) from ∙ sum-live t u rows (length-lowered rank c) many;
    }
