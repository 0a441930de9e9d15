-- One row fewer at an item of a tree: how many items have rows, the counts, the codes, and what stays sound.
use Rattle.std.proofs.Common.{◌≡◌, ℕ, ◌+◌, ◌^◌, ◌<◌, ◌≤◌, Bool, ◌&&◌, slice_get, true, false, List, [], ◌∷◌, ◌++◌, map, ap, ap₂, ◌∙◌, sym, inl, inr, arith}
use Rattle.std.proofs.lemmas.Bool.{cases_lt, cases_Bool}
use Rattle.mope_base.specs.declared.body.Body.{Body}
use Rattle.tree_model.specs.Trees.{Tree, node, inorder, size, height}
use Rattle.tree_model.specs.Items.{Item, one_less, change_at, live, is_dead, drop_item, is_sparse}
use Rattle.tree_model.specs.Removal.{change_tree}
use Rattle.tree_model.specs.Columns.{Column, items_of, whole, taken_out, shrunk, pruned, fewer, drop_one, Drop}
use Rattle.tree_model.specs.ColumnLaws.{IsKept}
use Rattle.tree_model.proofs.LiveItems.{live-yes, live-no, live-nil, drop_item-ordinary}
use Rattle.tree_model.proofs.Removals.{inorder-change_tree, height-change_tree}
use Rattle.tree_model.proofs.Kept.{IsKept-short}
use Rattle.path_code.specs.declared.moves.Recode.{Recode}
use Rattle.path_code.specs.Sums.{Sum, sum_of}
use Rattle.code_changes.specs.Changes.{differing, with_rows, without_rows}
use Rattle.code_changes.specs.Columns.{codes_of, counts_of, lowered}
use Rattle.code_changes.proofs.Counts.{counts as item_counts, counts-less}
use Rattle.code_changes.proofs.Staying.{codes_of-change_tree, drop-by, drop_lowers_count}
use Rattle.code_changes.specs.Removal.{removal_sum, goes_alone}
use Rattle.code_changes.proofs.Shifted.{removal_sum-changed}
use Rattle.code_changes.proofs.Removing.{drop_takes_item, drop_is_ordinary, alone-same_time}
use Rattle.code_changes.proofs.Sparse.{sparse_keeps_live}
use Rattle.ope_tree.specs.SweptSum.{counts_in, swept_sum}
use Rattle.ope_tree.specs.Dropped.{IsDropChange}

-- ---- how many items have rows

pub live-one : {B : Type 0} (x : Item B) (xs : List (Item B)) → live (x ∷ xs) ≡ live (x ∷ []) + live xs
live-one {B} x xs = elim (cases_lt 0 x.count) [
  | inl some ↦ omega (arith, live-yes x xs some, live-yes x [] some, live-nil B)
  | inr none ↦ omega (arith, live-no x xs none, live-no x [] none, live-nil B)
]

pub live-append : {B : Type 0} (xs ys : List (Item B)) → live (xs ++ ys) ≡ live xs + live ys
live-append {B} [] ys = omega (arith, live-nil B)
live-append (x ∷ xs) ys = omega (arith, live-one x (xs ++ ys), live-one x xs, live-append xs ys)

pub live-node : {B : Type 0} (l : Tree (Item B)) (x : Item B) (r : Tree (Item B)) → live (inorder (node l x r)) ≡ live (inorder l) + live (x ∷ []) + live (inorder r)
unfolding inorder
live-node l x r = omega (arith, live-append (inorder l) (x ∷ inorder r), live-one x (inorder r))

-- where one item has one row fewer
pub emptied-last : {B : Type 0} (x : Item B) → x.count ≡ 1 → live (x ∷ []) ≡ live (one_less x ∷ []) + 1
unfolding one_less
emptied-last {B} x e = omega (arith, live-yes x [] (omega arith), live-no (one_less x) [] (omega arith), live-nil B)

pub emptied-not : {B : Type 0} (x : Item B) → (x.count ≡ 1 → ⊥) → live (x ∷ []) ≡ live (one_less x ∷ []) + 0
unfolding one_less
emptied-not {B} x h = elim (cases_lt 1 x.count) [
  | inl more ↦ omega (arith, live-yes x [] (omega arith), live-yes (one_less x) [] (omega arith))
  | inr few ↦ elim (cases_lt 0 x.count) [
    | inl one ↦ absurd (h (omega arith))
    | inr none ↦ omega (arith, live-no x [] none, live-no (one_less x) [] (omega arith))
  ]
]

-- a body with a count
abbrev pub counted : {B : Type 0} → B → ℕ → Item B
counted body count = record { body = body; count = count }

-- ---- the column

abbrev pub column : {B : Type 0} → Tree (Item B) → ℕ → Column B
column t most = record { tree = t; most = most }

-- t is the tree before, u the one with a row fewer, v the tidied one, w the same once more
pub record IsDropped (same_time : Bool) (t u v w : Tree (Item Body)) (rank most most' : ℕ) : Type 0 where
  pub less : u ≡ change_tree one_less t rank
  pub tidy : column v most' ≡ pruned (taken_out (same_time && is_dead (slice_get (inorder u) rank)) u rank) most
  pub same : w ≡ v

pub column_dropped : (same_time : Bool) (t u v w : Tree (Item Body)) (rank most most' : ℕ) → IsDropped same_time t u v w rank most most' → column w most' ≡ drop_one same_time rank (column t most)
unfolding drop_one fewer
column_dropped same_time t u v w rank most most' is =
    ap (λ (x : Tree (Item Body)). column x most') is.same
    ∙ is.tidy
    ∙ ap (λ (x : Tree (Item Body)). pruned (taken_out (same_time && is_dead (slice_get (inorder x) rank)) x rank) most) is.less

items_lowered : (t u : Tree (Item Body)) (rank most : ℕ) → u ≡ change_tree one_less t rank → inorder u ≡ drop_item false (items_of (column t most)) rank
unfolding items_of
items_lowered t u rank most e = ap inorder e ∙ inorder-change_tree one_less t rank ∙ sym (drop_item-ordinary (inorder t) rank)

counts_lowered : (t u : Tree (Item Body)) (rank most : ℕ) → u ≡ change_tree one_less t rank → counts_in u ≡ lowered (counts_of (column t most)) rank
unfolding counts_of items_of item_counts
counts_lowered t u rank most e =
    ap (λ (x : Tree (Item Body)). counts_in x) e ∙ ap (λ (xs : List (Item Body)). map (λ item. item.count) xs) (inorder-change_tree one_less t rank) ∙ counts-less (inorder t) rank

whole_tree : (t u : Tree (Item Body)) (rank most : ℕ) → u ≡ change_tree one_less t rank → is_sparse most (drop_item false (items_of (column t most)) rank) ≡ true → whole u ≡ (drop_one false rank (column t most)).tree
unfolding shrunk
whole_tree t u rank most e sparse = ap whole e ∙ ap (λ (c : Column Body). c.tree) (sym (drop-by true rank (column t most) sparse))

swept_is : (t u : Tree (Item Body)) (rank most : ℕ) → u ≡ change_tree one_less t rank → is_sparse most (drop_item false (items_of (column t most)) rank) ≡ true → swept_sum u ≡ sum_of false (Drop rank ∷ []) (column t most)
swept_is t u rank most e sparse =
    let ns = counts_lowered t u rank most e in
    let codes = ap codes_of e ∙ codes_of-change_tree one_less t rank in
    let tree = whole_tree t u rank most e sparse in
    ap₂ (λ (ms : List Recode) (ds : List ℕ). let s : Sum = record { moved = ms; dropped = ds; added = [] } in s)
    (ap₂ differing (ap₂ (λ (ks xs : List ℕ). with_rows ks xs) ns codes) (ap codes_of tree))
    (ap₂ (λ (ks xs : List ℕ). without_rows ks xs) ns codes)
    ∙ sym (sparse_keeps_live rank (column t most) sparse).sum

-- the change of a tidied tree is the drop's
pub change_dropped : (same_time : Bool) (t u : Tree (Item Body)) (rank most : ℕ) (change : Sum) → rank < size t → u ≡ change_tree one_less t rank → IsDropChange same_time most rank u change → change ≡ sum_of same_time (Drop rank ∷ []) (column t most)
unfolding items_of
change_dropped same_time t u rank most change within e is =
    let c = column t most in
    let items : inorder u ≡ change_at one_less (items_of c) rank = ap inorder e ∙ inorder-change_tree one_less t rank in
    let alone : goes_alone same_time most (inorder u) rank ≡ goes_alone same_time most (change_at one_less (items_of c) rank) rank = ap (λ (xs : List (Item Body)). goes_alone same_time most xs rank) items in
    let here : is_sparse most (inorder u) ≡ is_sparse most (drop_item false (items_of c) rank) = ap (λ (xs : List (Item Body)). is_sparse most xs) (items_lowered t u rank most e) in
    elim (cases_Bool (goes_alone same_time most (inorder u) rank)) [
      | inl goes ↦
          let mode = alone-same_time same_time most (inorder u) rank goes in
          let item = drop_takes_item rank c within (ap (λ (m : Bool). goes_alone m most (change_at one_less (items_of c) rank) rank) (sym mode) ∙ sym alone ∙ goes) in
          is.alone goes
          ∙ ap (λ (v : Tree (Item Body)). removal_sum v rank) e
          ∙ removal_sum-changed one_less t rank within
          ∙ sym item.sum
          ∙ ap (λ (m : Bool). sum_of m (Drop rank ∷ []) c) (sym mode)
      | inr stays ↦
          let ordinary = drop_is_ordinary same_time rank c (sym alone ∙ stays) in
          elim (cases_Bool (is_sparse most (inorder u))) [
            | inl on ↦ is.sparse on ∙ swept_is t u rank most e (sym here ∙ on) ∙ sym ordinary.sum
            | inr off ↦ is.neither stays off ∙ sym (drop_lowers_count rank c (sym here ∙ off)).sum ∙ sym ordinary.sum
          ]
    ]

-- ---- what is true of the fields

pub lowered_short : (t u : Tree (Item Body)) (rank most : ℕ) → IsKept Body (column t most) → most < 2 ^ 32 → u ≡ change_tree one_less t rank → height u ≤ 63
lowered_short t u rank most kept few e =
    let high = IsKept-short (column t most) kept (omega arith) in
    omega (arith, high, ap height e, height-change_tree one_less t rank)
