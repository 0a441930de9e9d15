-- An insertion step by step: what it makes of the column and of its codes.
use Rattle.std.proofs.Common.{◌≡◌, ℕ, suc, zero, ◌+◌, ◌-◌, ◌<◌, ◌≤◌, max, true, false, List, [], ◌∷◌, length, take, reverse, slice_get, map, Option, Some, None, refl, ap, ap₂, ◌∙◌, sym, subst, inl, inr, arith}
use Rattle.tree_model.specs.declared.Side.{Side}
use Rattle.tree_model.specs.declared.Place.TheVariants.{Found, Gap}
use Rattle.tree_model.specs.Trees.{Tree, leaf, node, inorder, size, height, path}
use Rattle.tree_model.specs.Items.{Item, new_item, one_more, live, add_item, change_at}
use Rattle.tree_model.specs.Balance.{limit, nearest_heavy}
use Rattle.tree_model.specs.Places.{IsBelowAll, IsIncreasing}
use Rattle.path_code.specs.SumLaws.{Increase}
use Rattle.code_changes.specs.Normal.{IsNormal}
use Rattle.code_changes.proofs.NormalForms.{nothing_moves}
use Rattle.tree_model.specs.Insertion.{tree_at, graft, balanced_at, scapegoat_way, insert_tree, sizes_along}
use Rattle.tree_model.specs.Removal.{change_tree}
use Rattle.tree_model.specs.Parts.{IsWay}
use Rattle.tree_model.specs.Columns.{Column, Add, add, items_of}
use Rattle.tree_model.proofs.Depths.{size-graft, insert-deep}
use Rattle.tree_model.proofs.GraftPaths.{graft-new}
use Rattle.tree_model.proofs.Grafts.{height-put_at}
use Rattle.tree_model.proofs.Kept.{items-add}
use Rattle.tree_model.proofs.LiveItems.{live-insert, live-yes, live-no, live-nil}
use Rattle.tree_model.proofs.Removals.{change-left, change-here, change-right}
use Rattle.tree_model.proofs.Parts.{item_at}
use Rattle.tree_model.proofs.Ways.{length-path}
use Rattle.std.proofs.lemmas.Bool.{cases_lt, cases_order}
use Rattle.std.proofs.lemmas.List.{get_or-map}
use Rattle.std.proofs.lemmas.Option.{slice_get-get_or, slice_get_within, get_or_from_slice_get}
use Rattle.std.specs.Option.{option_map, IsSome}
use Rattle.path_code.specs.Codes.{code_of}
use Rattle.path_code.specs.Ways.{way}
use Rattle.path_code.specs.declared.paths.Path.{Path}
use Rattle.path_code.proofs.Spelling.{length-steps}
use Rattle.path_code.specs.Sums.{Sum, sum_of}
use Rattle.path_code.specs.declared.moves.Recode.{Recode}
use Rattle.path_code.proofs.Sums.{sum_of-insert}
use Rattle.mope_base.specs.declared.body.Body.{Body}
use Rattle.ope_tree.specs.declared.nodes.Entry.{Entry}
use Rattle.ope_tree.specs.Nodes.{item_of}
use Rattle.ope_tree.specs.Settling.{IsMovedIn, moved_in, added_in}
use Rattle.code_changes.specs.Columns.{counts_of}
use Rattle.ope_tree.specs.Listed.{count_at}
use Rattle.ope_tree.proofs.Walking.{item-left, item-here, item-right}
use Rattle.ope_tree.proofs.Splitting.{sum-settled}
use Rattle.code_changes.proofs.Leading.{same_sum}

-- the column after an insertion at a gap
pub column_added : (t u : Tree (Item Body)) (most most_now rank : ℕ) (b : Body) → most_now ≡ max most (suc (size t)) → u ≡ insert_tree most_now rank (new_item b) t → (let c : Column Body = record { tree = u; most = most_now } in c) ≡ add (Gap rank) b (record { tree = t; most = most })
unfolding add
column_added t u most most_now rank b em eu =
    ap₂ (λ (v : Tree (Item Body)) (n : ℕ). let c : Column Body = record { tree = v; most = n } in c)
    (eu ∙ ap (λ (n : ℕ). insert_tree n rank (new_item b) t) em) em

pub live_added : (c : Column Body) (rank : ℕ) (b : Body) → live (items_of (add (Gap rank) b c)) ≡ suc (live (items_of c))
unfolding add_item new_item
live_added c rank b =
    let one = live-insert (items_of c) rank (new_item b) (omega arith) in
    let put = ap live (items-add (Gap rank) b c) in
    omega (arith, one, put)

-- the part that is balanced lies on the way to the new item
pub IsWay-take : {A : Type 0} (way : List Side) (t : Tree A) (k : ℕ) → IsWay way t → IsWay (take k way) t
unfolding IsWay
IsWay-take way t zero h = tt
IsWay-take [] t (suc k) h = tt
IsWay-take (side ∷ way) t (suc k) h = (h.0, IsWay-take way _ k h.1)

pub tall_is_way : {A : Type 0} (t : Tree A) (rank : ℕ) (d : A) → rank < size t → IsWay (scapegoat_way (path t (Found rank)) t) t
unfolding scapegoat_way
tall_is_way t rank d h = IsWay-take (path t (Found rank)) t (length (path t (Found rank)) - suc (nearest_heavy 1 (reverse (sizes_along (path t (Found rank)) t)))) (item_at t rank d h).is_way

-- the tree after an insertion that balances a part, by the way to the new item
pub insert-tall : {A : Type 0} (most rank : ℕ) (x : A) (t g : Tree A) → g ≡ graft rank x t → rank ≤ size t → limit most < length (path g (Found rank)) → insert_tree most rank x t ≡ balanced_at (scapegoat_way (path g (Found rank)) g) g
insert-tall most rank x t g e h deep =
    let way = ap (λ (u : Tree _). path u (Found rank)) e ∙ graft-new rank x t h in
    let len = ap length way in
    insert-deep most rank x t (omega (arith, deep, len)) ∙ ap₂ (λ (w : List Side) (u : Tree _). balanced_at (scapegoat_way w u) u) (sym way) (sym e)

-- a graft is at most one level higher than its longest way
pub graft-low : {A : Type 0} (rank : ℕ) (x : A) (t : Tree A) → height t ≤ 55 → height (graft rank x t) ≤ 63
unfolding graft height
graft-low rank x t low =
    height-put_at (path t (Gap rank)) t (node leaf x leaf) 63 (omega arith) (omega (arith, length-path t (Gap rank)))

-- ---- the change

pub change_alone : (c : Column Body) (rank code : ℕ) (b : Body) (way : List Side) (s : Sum) → rank ≤ size c.tree → length (path c.tree (Gap rank)) ≤ limit (max c.most (suc (size c.tree))) → way ≡ path c.tree (Gap rank) → code ≡ code_of way → s ≡ record { moved = []; dropped = []; added = code ∷ [] } → s ≡ sum_of false (Add (Gap rank) b ∷ []) c
change_alone c rank code b way s h shallow ew ec es =
    es
    ∙ ap (λ (n : ℕ). let r : Sum = record { moved = []; dropped = []; added = n ∷ [] } in r) (ec ∙ ap code_of ew)
    ∙ sym (sum_of-insert false rank b c h shallow)

pub change_settled : (c : Column Body) (g : Tree (Item Body)) (rank added : ℕ) (b : Body) (moved : List Recode) → g ≡ graft rank (new_item b) c.tree → rank ≤ size c.tree → limit (max c.most (suc (size c.tree))) < length (path g (Found rank)) → IsMovedIn g (scapegoat_way (path g (Found rank)) g) rank moved added → (let s : Sum = record { moved = moved; dropped = []; added = added ∷ [] } in s) ≡ sum_of false (Add (Gap rank) b ∷ []) c
unfolding add
change_settled c g rank added b moved e h deep is =
    let t = c.tree in
    let x = new_item b in
    let most = max c.most (suc (size t)) in
    let P : Tree (Item Body) → Type 0 = λ u. IsMovedIn u (scapegoat_way (path u (Found rank)) u) rank moved added in
    let there : IsMovedIn (graft rank x t) (scapegoat_way (path (graft rank x t) (Found rank)) (graft rank x t)) rank moved added = subst P e is in
    let along = scapegoat_way (path (graft rank x t) (Found rank)) (graft rank x t) in
    let inside : rank < size (graft rank x t) = omega (arith, size-graft rank x t) in
    let len = ap (λ (u : Tree (Item Body)). length (path u (Found rank))) e in
    same_sum moved (moved_in along (tree_at along (graft rank x t)) there.inner) [] [] (added ∷ []) (added_in along (tree_at along (graft rank x t)) there.inner ∷ []) there.moved_is refl (ap (λ (n : ℕ). n ∷ []) there.added_is)
    ∙ sym (sum-settled rank b c along there.inner h (tall_is_way (graft rank x t) rank x inside)
    (insert-tall most rank x t (graft rank x t) refl h (omega (arith, deep, len)))
    there.rank_is there.within)

-- ---- small changes are in normal form

increase_one : (moved : List Recode) (dropped added : List ℕ) (code : ℕ) → moved ≡ [] → dropped ≡ [] → added ≡ code ∷ [] → Increase (record { moved = moved; dropped = dropped; added = added })
unfolding IsIncreasing IsBelowAll
increase_one moved dropped added code em ed ea = record {
  old = subst (λ (m : List Recode). IsIncreasing (map (λ r. r.old) m)) (sym em) tt;
  new = subst (λ (m : List Recode). IsIncreasing (map (λ r. r.new) m)) (sym em) tt;
  dropped = subst IsIncreasing (sym ed) tt;
  added = subst IsIncreasing (sym ea) (tt, tt);
}

increase_nothing : (moved : List Recode) (dropped added : List ℕ) → moved ≡ [] → dropped ≡ [] → added ≡ [] → Increase (record { moved = moved; dropped = dropped; added = added })
unfolding IsIncreasing
increase_nothing moved dropped added em ed ea = record {
  old = subst (λ (m : List Recode). IsIncreasing (map (λ r. r.old) m)) (sym em) tt;
  new = subst (λ (m : List Recode). IsIncreasing (map (λ r. r.new) m)) (sym em) tt;
  dropped = subst IsIncreasing (sym ed) tt;
  added = subst IsIncreasing (sym ea) tt;
}

pub normal_one : (moved : List Recode) (dropped added : List ℕ) (code : ℕ) → moved ≡ [] → dropped ≡ [] → added ≡ code ∷ [] → IsNormal (record { moved = moved; dropped = dropped; added = added })
normal_one moved dropped added code em ed ea = nothing_moves (record { moved = moved; dropped = dropped; added = added }) em (increase_one moved dropped added code em ed ea)

pub normal_nothing : (moved : List Recode) (dropped added : List ℕ) → moved ≡ [] → dropped ≡ [] → added ≡ [] → IsNormal (record { moved = moved; dropped = dropped; added = added })
normal_nothing moved dropped added em ed ea = nothing_moves (record { moved = moved; dropped = dropped; added = added }) em (increase_nothing moved dropped added em ed ea)

pub path_len : (p : Path) (w : List Side) → way p ≡ w → p.len ≡ length w
path_len p w e = sym (length-steps p.len p.bits) ∙ ap length e

-- a test that says no
pub not_deeper : (n m : ℕ) → (n < m → false ≡ true) → m ≤ n
not_deeper n m told = elim (cases_lt n m) [ inl deeper ↦ (let wrong = told deeper in cc) | inr within ↦ within ]

-- ---- one row more of an item

live-head : {B : Type 0} (x : Item B) (xs : List (Item B)) → live (x ∷ xs) ≡ live (x ∷ []) + live xs
live-head {B} x xs = elim (cases_lt 0 x.count) [
  | inl some ↦ (let one = live-yes x xs some in let alone = live-yes x [] some in let nothing = live-nil B in omega arith)
  | inr none ↦ (let one = live-no x xs none in let alone = live-no x [] none in let nothing = live-nil B in omega arith)
]

pub live_raised : {B : Type 0} (items : List (Item B)) (rank : ℕ) (x : Item B) (more : ℕ) → slice_get items rank ≡ Some x → live (one_more x ∷ []) ≡ live (x ∷ []) + more → live (change_at one_more items rank) ≡ live items + more
unfolding change_at
live_raised [] rank x more e h = absurd (cc)
live_raised (y ∷ ys) zero x more e h =
    let same : y ≡ x = cc in
    let P : Item _ → Type 0 = λ z. live (one_more z ∷ ys) ≡ live (z ∷ ys) + more in
    let a = live-head (one_more x) ys in
    let b = live-head x ys in
    subst P (sym same) (omega arith)
live_raised (y ∷ ys) (suc rank) x more e h =
    let a = live-head y (change_at one_more ys rank) in
    let b = live-head y ys in
    let ih = live_raised ys rank x more e h in
    omega arith

-- the item there is known
pub change-known : {A : Type 0} (f : A → A) (t : Tree A) (rank : ℕ) (x : A) → slice_get (inorder t) rank ≡ Some x → change_tree (λ _. f x) t rank ≡ change_tree f t rank
unfolding change_tree inorder
change-known f leaf rank x e = refl
change-known f (node l y r) rank x e =
    elim (cases_order rank (size l)) [
      | inl here ↦ (let same : y ≡ x = (let there = item-here l y r (node l y r) rank refl here in cc) in
          change-here (λ _. f x) l y r rank here ∙ ap (λ (z : _). node l (f z) r) (sym same) ∙ sym (change-here f l y r rank here))
      | inr (inl left) ↦ (change-left (λ _. f x) l y r rank left
          ∙ ap (λ (u : Tree _). node u y r) (change-known f l rank x (sym (item-left l y r (node l y r) rank refl left) ∙ e))
          ∙ sym (change-left f l y r rank left))
      | inr (inr right) ↦ (let m = rank - suc (size l) in
          change-right (λ _. f x) l y r rank right
          ∙ ap (λ (u : Tree _). node l y u) (change-known f r m x (sym (item-right l y r (node l y r) rank m refl (omega arith)) ∙ e))
          ∙ sym (change-right f l y r rank right))
    ]

pub column_raised : (t u : Tree (Item Body)) (most rank : ℕ) (b : Body) (x y : Item Body) → slice_get (inorder t) rank ≡ Some x → y ≡ one_more x → u ≡ change_tree (λ _. y) t rank → (let c : Column Body = record { tree = u; most = most } in c) ≡ add (Found rank) b (record { tree = t; most = most })
unfolding add
column_raised t u most rank b x y e ey eu =
    ap (λ (v : Tree (Item Body)). let c : Column Body = record { tree = v; most = most } in c)
    (eu ∙ ap (λ (z : Item Body). change_tree (λ _. z) t rank) ey ∙ change-known one_more t rank x e)

pub live_after_raise : (c : Column Body) (rank : ℕ) (b : Body) (x : Item Body) (more : ℕ) → slice_get (items_of c) rank ≡ Some x → live (one_more x ∷ []) ≡ live (x ∷ []) + more → live (items_of (add (Found rank) b c)) ≡ live (items_of c) + more
unfolding add_item
live_after_raise c rank b x more e h = ap live (items-add (Found rank) b c) ∙ live_raised (items_of c) rank x more e h

pub known_item : (items : List (Item Body)) (rank : ℕ) (found : Option Entry) (d : Item Body) → rank < length items → slice_get items rank ≡ option_map item_of found → IsSome found
known_item items rank None d h e = (let there = slice_get-get_or items rank d h in cc)
known_item items rank (Some entry) d h e = refl

-- how many rows the item there has
pub count_there : (c : Column Body) (rank : ℕ) (x : Item Body) → slice_get (items_of c) rank ≡ Some x → count_at c rank ≡ x.count
unfolding count_at counts_of
count_there c rank x e =
    get_or-map (λ item. item.count) (items_of c) rank x 0 (slice_get_within (items_of c) rank x e)
    ∙ ap (λ (i : Item Body). i.count) (get_or_from_slice_get (items_of c) rank x x e)
