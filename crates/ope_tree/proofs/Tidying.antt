-- What follows the loss of a row: the item goes, or the whole tree becomes balanced, or neither.
use Rattle.std.proofs.Common.{◌≡◌, ℕ, suc, zero, ◌<◌, ◌≤◌, Bool, true, false, not, ◌&&◌, eqb, ltb, slice_get, Option, Some, None, List, [], ◌∷◌, ◌++◌, length, map, remove, refl, ap, ap₂, ◌∙◌, sym, subst, arith, ne_eqb, lt-ltb}
use Rattle.mope_base.specs.declared.body.Body.{Body}
use Rattle.tree_model.specs.declared.Side.{Side}
use Rattle.tree_model.specs.declared.Place.TheVariants.{Found}
use Rattle.tree_model.specs.Trees.{Tree, inorder, size, height, path}
use Rattle.tree_model.specs.Places.{IsBelowAll, IsIncreasing}
use Rattle.tree_model.specs.Items.{Item, has_rows, live, is_dead, is_sparse}
use Rattle.tree_model.specs.Removal.{remove_tree}
use Rattle.tree_model.specs.Columns.{taken_out, pruned}
use Rattle.tree_model.proofs.Removals.{inorder-remove_tree, height-remove_tree}
use Rattle.path_code.specs.Codes.{code_of}
use Rattle.path_code.specs.declared.moves.Recode.{Recode}
use Rattle.path_code.specs.Sums.{item_code, Sum}
use Rattle.path_code.specs.SumLaws.{Increase}
use Rattle.code_changes.specs.Columns.{codes_of}
use Rattle.code_changes.specs.Normal.{IsNormal}
use Rattle.code_changes.specs.Removal.{removal_moved, removal_sum, goes_alone}
use Rattle.code_changes.proofs.ItemCodes.{IsIncreasing-codes_of}
use Rattle.code_changes.proofs.Leading.{same_sum}
use Rattle.code_changes.proofs.NormalRemovals.{removal_normal}
use Rattle.code_changes.proofs.Shifted.{removal_moves}
use Rattle.code_changes.proofs.Removing.{rises-without, live-without, pruned-alone, alone-dead, alone-enough}
use Rattle.ope_tree.specs.Dropped.{IsDropChange}
use Rattle.ope_tree.proofs.Sweeps.{olds_rise, news_rise}
use Rattle.ope_tree.proofs.RowDrops.{column}

-- ---- whether the item goes

pub none_is : (n : ℕ) → eqb n 0 ≡ not (ltb 0 n)
none_is zero = refl
none_is (suc n) = ne_eqb (suc n) 0 (λ e. omega arith) ∙ sym (ap not (lt-ltb 0 (suc n) (omega arith)))

pub no_item : {B : Type 0} (found : Option (Item B)) → found ≡ None → false ≡ is_dead found
unfolding is_dead
no_item found e = sym (ap (λ (o : Option (Item _)). is_dead o) e)

pub an_item : {B : Type 0} (found : Option (Item B)) (x : Item B) → found ≡ Some x → eqb x.count 0 ≡ is_dead found
unfolding is_dead has_rows
an_item found x e = none_is x.count ∙ sym (ap (λ (o : Option (Item _)). is_dead o) e)

and_no : (a b : Bool) → b ≡ true → false ≡ (a && not b)
and_no true b e = sym (ap not e)
and_no false b e = refl

pub swept_stays : {B : Type 0} (same_time : Bool) (most : ℕ) (items : List (Item B)) (rank : ℕ) → is_sparse most items ≡ true → false ≡ goes_alone same_time most items rank
unfolding goes_alone
swept_stays same_time most items rank e = and_no (same_time && is_dead (slice_get items rank)) (is_sparse most items) e

pub ordinary_stays : {B : Type 0} (most : ℕ) (items : List (Item B)) (rank : ℕ) → false ≡ goes_alone false most items rank
unfolding goes_alone
ordinary_stays most items rank = refl

and_yes : (a b : Bool) → b ≡ false → a ≡ (a && not b)
and_yes true b e = sym (ap not e)
and_yes false b e = refl

pub same_time_goes : {B : Type 0} (most : ℕ) (items : List (Item B)) (rank : ℕ) → is_sparse most items ≡ false → is_dead (slice_get items rank) ≡ goes_alone true most items rank
unfolding goes_alone
same_time_goes most items rank e = and_yes (is_dead (slice_get items rank)) (is_sparse most items) e

-- ---- the tree without the item

pub column_withdrawn : (same_time : Bool) (t u : Tree (Item Body)) (rank most most' : ℕ) → goes_alone same_time most (inorder t) rank ≡ true → u ≡ remove_tree t rank → most' ≡ most → column u most' ≡ pruned (taken_out (same_time && is_dead (slice_get (inorder t) rank)) t rank) most
column_withdrawn same_time t u rank most most' goes tree same =
    ap₂ (λ (v : Tree (Item Body)) (n : ℕ). column v n) tree same ∙ sym (pruned-alone same_time t rank most goes)

pub live_withdrawn : (same_time : Bool) (t u : Tree (Item Body)) (rank most n n' : ℕ) → goes_alone same_time most (inorder t) rank ≡ true → n ≡ live (inorder t) → u ≡ remove_tree t rank → n' ≡ n → n' ≡ live (inorder u)
unfolding live
live_withdrawn same_time t u rank most n n' goes count tree same =
    same
    ∙ count
    ∙ sym (ap (λ (v : Tree (Item Body)). live (inorder v)) tree
    ∙ ap (λ (xs : List (Item Body)). live xs) (inorder-remove_tree t rank)
    ∙ ap (λ (xs : List (Item Body)). length xs) (live-without (inorder t) rank (alone-dead same_time most (inorder t) rank goes)))

not_both : {P : Type 0} (b : Bool) → b ≡ true → b ≡ false → P
not_both b t f = absurd (let e : true ≡ false = sym t ∙ f in cc)

pub change_withdrawn : (same_time : Bool) (t : Tree (Item Body)) (rank most : ℕ) (s : Sum) → goes_alone same_time most (inorder t) rank ≡ true → s ≡ removal_sum t rank → IsDropChange same_time most rank t s
change_withdrawn same_time t rank most s goes is = record {
  alone = λ _. is;
  sparse = λ on. not_both (is_sparse most (inorder t)) on (alone-enough same_time most (inorder t) rank goes);
  neither = λ stays _. not_both (goes_alone same_time most (inorder t) rank) goes stays;
}

-- ---- its change

one_rises : (n : ℕ) → IsIncreasing (n ∷ [])
unfolding IsIncreasing IsBelowAll
one_rises n = (tt, tt)

none_rises : IsIncreasing []
unfolding IsIncreasing
none_rises = tt

removal_increases : {A : Type 0} (t : Tree A) (rank : ℕ) → height t ≤ 63 → rank < size t → Increase (removal_sum t rank)
unfolding removal_sum
removal_increases t rank high within =
    let olds = remove (codes_of t) rank in
    let news = codes_of (remove_tree t rank) in
    let low = height-remove_tree t rank in
    let is = removal_moves t rank within in
    record {
      old = subst (λ (moved : List Recode). IsIncreasing (map (λ r. r.old) moved)) is (olds_rise olds news (rises-without (codes_of t) rank (IsIncreasing-codes_of t high)));
      new = subst (λ (moved : List Recode). IsIncreasing (map (λ r. r.new) moved)) is (news_rise olds news (IsIncreasing-codes_of (remove_tree t rank) (omega arith)));
      dropped = one_rises (item_code t rank);
      added = none_rises;
    }

-- what was computed
pub record IsTold (A : Type 0) (t : Tree A) (rank : ℕ) (moved : List Recode) (dropped added : List ℕ) : Type 0 where
  pub root : List Side
  pub top : root ≡ []
  pub pairs : moved ≡ removal_moved root t rank
  pub empty : List ℕ
  pub nothing : empty ≡ []
  pub code : ℕ
  pub one : dropped ≡ empty ++ code ∷ []
  pub way : List Side
  pub spells : code ≡ code_of way
  pub start : List Side
  pub above : start ≡ []
  pub leads : way ≡ start ++ path t (Found rank)
  pub none : added ≡ []

pub told_is : {A : Type 0} (t : Tree A) (rank : ℕ) (moved : List Recode) (dropped added : List ℕ) → IsTold A t rank moved dropped added → (let s : Sum = record { moved = moved; dropped = dropped; added = added } in s) ≡ removal_sum t rank
unfolding removal_sum item_code
told_is t rank moved dropped added told =
    same_sum moved (removal_moved [] t rank) dropped (code_of (path t (Found rank)) ∷ []) added []
    (told.pairs ∙ ap (λ (w : List Side). removal_moved w t rank) told.top)
    (told.one
    ∙ ap (λ (xs : List ℕ). xs ++ told.code ∷ []) told.nothing
    ∙ ap (λ (n : ℕ). n ∷ []) (told.spells ∙ ap code_of (told.leads ∙ ap (λ (w : List Side). w ++ path t (Found rank)) told.above)))
    told.none

pub told_normal : {A : Type 0} (t : Tree A) (rank : ℕ) (moved : List Recode) (dropped added : List ℕ) → height t ≤ 63 → rank < size t → IsTold A t rank moved dropped added → IsNormal (record { moved = moved; dropped = dropped; added = added })
told_normal t rank moved dropped added high within told =
    subst (λ (s : Sum). IsNormal s) (sym (told_is t rank moved dropped added told)) (removal_normal t rank high within (removal_increases t rank high within))
