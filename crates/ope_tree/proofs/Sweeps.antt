-- The sweep of the items without rows: what it takes of the codes, that its change increases, and the column that it leaves.
use Rattle.std.proofs.Common.{◌≡◌, ◌↔◌, ℕ, suc, zero, ◌*◌, ◌^◌, ◌<◌, ◌≤◌, Bool, true, false, ltb, eqb, IsTrue, List, [], ◌∷◌, ◌++◌, length, map, filter, Result, Ok, Err, IfOk, refl, ap, ap₂, ◌∙◌, sym, subst, inl, inr, arith, lt-ltb, le-ltb}
use Rattle.std.specs.List.{zip}
use Rattle.std.proofs.lemmas.Bool.{cases_lt, cases_eq}
use Rattle.std.proofs.lemmas.List.{length-map}
use Rattle.mope_base.specs.declared.body.Body.{Body}
use Rattle.tree_model.specs.Trees.{Tree, size, height, inorder, balanced}
use Rattle.tree_model.specs.Places.{IsBelowAll, IsIncreasing}
use Rattle.tree_model.specs.Items.{Item, live_items, live, is_sparse}
use Rattle.tree_model.specs.Columns.{Column, whole, shrunk, pruned}
use Rattle.tree_model.proofs.Halves.{size-balanced, height-balanced}
use Rattle.tree_model.proofs.Ways.{length-inorder}
use Rattle.tree_model.proofs.LiveItems.{live-live_items}
use Rattle.tree_model.proofs.Kept.{inorder-whole}
use Rattle.path_code.specs.declared.moves.Recode.{Recode}
use Rattle.path_code.specs.Sums.{Sum}
use Rattle.path_code.specs.SumLaws.{Increase}
use Rattle.code_changes.specs.Normal.{IsNormal}
use Rattle.code_changes.proofs.NormalForms.{nothing_moves, taking, taking_normal}
use Rattle.code_changes.specs.Changes.{differing, with_rows, without_rows}
use Rattle.code_changes.specs.Columns.{codes_of}
use Rattle.code_changes.proofs.Counts.{counts as item_counts, live-counts}
use Rattle.code_changes.proofs.ItemCodes.{length-codes_of, IsIncreasing-codes_of}
use Rattle.code_changes.proofs.Pairs.{differing-same, differing-other}
use Rattle.code_changes.proofs.Rows.{IsIncreasing-with, IsBelowAll-without}
use Rattle.ope_tree.specs.declared.nodes.Entry.{Entry}
use Rattle.ope_tree.specs.Nodes.{item_of, items_of_entries}
use Rattle.ope_tree.specs.SweptSum.{counts_in, swept_sum}
use Rattle.ope_tree.proofs.RowLists.{counts_at, with-chain, without-chain}

-- ---- the change increases

old_above : (v : ℕ) (xs ys : List ℕ) → IsBelowAll v xs → IsBelowAll v (map (λ r. r.old) (differing xs ys))
unfolding IsBelowAll differing
old_above v [] ys h = tt
old_above v (x ∷ xs) [] h = tt
old_above v (x ∷ xs) (y ∷ ys) h =
    let P : List Recode → Type 0 = λ moved. IsBelowAll v (map (λ r. r.old) moved) in
    elim (cases_eq x y) [
      | inl same ↦ subst P (sym (differing-same x y xs ys same)) (old_above v xs ys h.1)
      | inr other ↦ subst P (sym (differing-other x y xs ys other)) (h.0, old_above v xs ys h.1)
    ]

new_above : (v : ℕ) (xs ys : List ℕ) → IsBelowAll v ys → IsBelowAll v (map (λ r. r.new) (differing xs ys))
unfolding IsBelowAll differing
new_above v [] ys h = tt
new_above v (x ∷ xs) [] h = tt
new_above v (x ∷ xs) (y ∷ ys) h =
    let P : List Recode → Type 0 = λ moved. IsBelowAll v (map (λ r. r.new) moved) in
    elim (cases_eq x y) [
      | inl same ↦ subst P (sym (differing-same x y xs ys same)) (new_above v xs ys h.1)
      | inr other ↦ subst P (sym (differing-other x y xs ys other)) (h.0, new_above v xs ys h.1)
    ]

pub olds_rise : (xs ys : List ℕ) → IsIncreasing xs → IsIncreasing (map (λ r. r.old) (differing xs ys))
unfolding IsIncreasing differing
olds_rise [] ys up = tt
olds_rise (x ∷ xs) [] up = tt
olds_rise (x ∷ xs) (y ∷ ys) up =
    let P : List Recode → Type 0 = λ moved. IsIncreasing (map (λ r. r.old) moved) in
    elim (cases_eq x y) [
      | inl same ↦ subst P (sym (differing-same x y xs ys same)) (olds_rise xs ys up.1)
      | inr other ↦ subst P (sym (differing-other x y xs ys other)) (old_above x xs ys up.0, olds_rise xs ys up.1)
    ]

pub news_rise : (xs ys : List ℕ) → IsIncreasing ys → IsIncreasing (map (λ r. r.new) (differing xs ys))
unfolding IsIncreasing differing
news_rise [] ys up = tt
news_rise (x ∷ xs) [] up = tt
news_rise (x ∷ xs) (y ∷ ys) up =
    let P : List Recode → Type 0 = λ moved. IsIncreasing (map (λ r. r.new) moved) in
    elim (cases_eq x y) [
      | inl same ↦ subst P (sym (differing-same x y xs ys same)) (news_rise xs ys up.1)
      | inr other ↦ subst P (sym (differing-other x y xs ys other)) (new_above y xs ys up.0, news_rise xs ys up.1)
    ]

without_rises : (counts xs : List ℕ) → IsIncreasing xs → IsIncreasing (without_rows counts xs)
unfolding IsIncreasing without_rows
without_rises [] xs up = tt
without_rises (count ∷ counts) [] up = tt
without_rises (zero ∷ counts) (x ∷ xs) up = (IsBelowAll-without x counts xs up.0, without_rises counts xs up.1)
without_rises (suc count ∷ counts) (x ∷ xs) up = without_rises counts xs up.1

nil_rises : IsIncreasing []
unfolding IsIncreasing
nil_rises = tt

empty_rises : (moved : List Recode) (dropped added : List ℕ) → moved ≡ [] → dropped ≡ [] → added ≡ [] → Increase (record { moved = moved; dropped = dropped; added = added })
empty_rises moved dropped added e f g = record {
  old = subst (λ (ms : List Recode). IsIncreasing (map (λ r. r.old) ms)) (sym e) nil_rises;
  new = subst (λ (ms : List Recode). IsIncreasing (map (λ r. r.new) ms)) (sym e) nil_rises;
  dropped = subst (λ (ns : List ℕ). IsIncreasing ns) (sym f) nil_rises;
  added = subst (λ (ns : List ℕ). IsIncreasing ns) (sym g) nil_rises;
}

swept_rises : (t : Tree (Item Body)) → height t ≤ 63 → height (whole t) ≤ 63 → Increase (swept_sum t)
swept_rises t high low =
    let olds = with_rows (counts_in t) (codes_of t) in
    let news = codes_of (whole t) in
    record {
      old = olds_rise olds news (IsIncreasing-with (counts_in t) (codes_of t) (IsIncreasing-codes_of t high));
      new = news_rise olds news (IsIncreasing-codes_of (whole t) low);
      dropped = without_rises (counts_in t) (codes_of t) (IsIncreasing-codes_of t high);
      added = nil_rises;
    }

pub empty_normal : (moved : List Recode) (dropped added : List ℕ) → moved ≡ [] → dropped ≡ [] → added ≡ [] → IsNormal (record { moved = moved; dropped = dropped; added = added })
empty_normal moved dropped added e f g = nothing_moves (record { moved = moved; dropped = dropped; added = added }) e (empty_rises moved dropped added e f g)

swept_takes : (t : Tree (Item Body)) → taking (counts_in t) (codes_of t) (codes_of (whole t)) [] ≡ swept_sum t
unfolding taking
swept_takes t = refl

pub swept_normal : (t : Tree (Item Body)) → height t ≤ 63 → height (whole t) ≤ 63 → IsNormal (swept_sum t)
swept_normal t high low =
    subst IsNormal (swept_takes t) (taking_normal (counts_in t) (codes_of t) (codes_of (whole t)) [] (IsIncreasing-codes_of t high) (subst Increase (sym (swept_takes t)) (swept_rises t high low)))

-- ---- the entries that were collected

pub collected : (before after : List Entry) (t : Tree (Item Body)) → before ≡ [] → items_of_entries after ≡ items_of_entries before ++ inorder t → items_of_entries after ≡ inorder t
unfolding items_of_entries
collected before after t none e = e ∙ ap (λ (xs : List Entry). map item_of xs ++ inorder t) none

counts-entries : (entries : List Entry) → map (λ item. item.count) (items_of_entries entries) ≡ counts_at entries
unfolding items_of_entries item_of
counts-entries [] = refl
counts-entries (e ∷ entries) = ap (λ (ns : List ℕ). e.count ∷ ns) (counts-entries entries)

counts_of_tree : (entries : List Entry) (t : Tree (Item Body)) → items_of_entries entries ≡ inorder t → counts_at entries ≡ counts_in t
counts_of_tree entries t e = sym (counts-entries entries) ∙ ap (λ (items : List (Item Body)). map (λ item. item.count) items) e

-- entries and codes as they were passed on
pub record IsSeen (t : Tree (Item Body)) (entries seen : List Entry) (before codes : List ℕ) : Type 0 where
  pub entries_are : items_of_entries entries ≡ inorder t
  pub codes_are : before ≡ codes_of t
  pub same_entries : seen ≡ entries
  pub same_codes : codes ≡ before

pub stayed_is : (t : Tree (Item Body)) (entries seen : List Entry) (before codes stayed : List ℕ) → IsSeen t entries seen before codes → stayed ≡ map (λ pair. pair.1) (filter (λ (pair : Entry × ℕ). ltb 0 pair.0.count) (zip seen codes)) → stayed ≡ with_rows (counts_in t) (codes_of t)
stayed_is t entries seen before codes stayed is e =
    e ∙ with-chain seen codes ∙ ap₂ (λ (ns ks : List ℕ). with_rows ns ks) (ap counts_at is.same_entries ∙ counts_of_tree entries t is.entries_are) (is.same_codes ∙ is.codes_are)

pub dropped_is : (t : Tree (Item Body)) (entries seen : List Entry) (before codes left : List ℕ) → IsSeen t entries seen before codes → left ≡ map (λ pair. pair.1) (filter (λ (pair : Entry × ℕ). eqb pair.0.count 0) (zip seen codes)) → left ≡ without_rows (counts_in t) (codes_of t)
dropped_is t entries seen before codes left is e =
    e ∙ without-chain seen codes ∙ ap₂ (λ (ns ks : List ℕ). without_rows ns ks) (ap counts_at is.same_entries ∙ counts_of_tree entries t is.entries_are) (is.same_codes ∙ is.codes_are)

-- the tree of the items that are left
pub whole_is : (t u : Tree (Item Body)) (entries seen kept passed : List Entry) → items_of_entries entries ≡ inorder t → seen ≡ entries → items_of_entries kept ≡ live_items (items_of_entries seen) → passed ≡ kept → u ≡ balanced (items_of_entries passed) → u ≡ whole t
unfolding whole
whole_is t u entries seen kept passed are same live_are again tree =
    tree ∙ ap balanced (ap items_of_entries again ∙ live_are ∙ ap (λ (es : List Entry). live_items (items_of_entries es)) same ∙ ap live_items are)

pub whole_short : (t : Tree (Item Body)) (alive : ℕ) → alive ≡ live (inorder t) → alive < 2 ^ 32 → height (whole t) ≤ 63
unfolding whole live
whole_short t alive e few = omega (arith, height-balanced (live_items (inorder t)) 32 (omega (arith, e, few)))

-- the lists that were made
pub record IsMade (t u : Tree (Item Body)) (stayed after left added : List ℕ) (moved : List Recode) : Type 0 where
  pub stay : stayed ≡ with_rows (counts_in t) (codes_of t)
  pub go : left ≡ without_rows (counts_in t) (codes_of t)
  pub tree : u ≡ whole t
  pub codes : after ≡ codes_of u
  pub pairs : moved ≡ differing stayed after
  pub none : added ≡ []

abbrev pub sum_from : List Recode → List ℕ → List ℕ → Sum
sum_from moved dropped added = record { moved = moved; dropped = dropped; added = added }

pub change_is : (t u : Tree (Item Body)) (stayed after left added : List ℕ) (moved : List Recode) → IsMade t u stayed after left added moved → sum_from moved left added ≡ swept_sum t
change_is t u stayed after left added moved is =
    let pairs : moved ≡ differing (with_rows (counts_in t) (codes_of t)) (codes_of (whole t)) =
    is.pairs ∙ ap₂ differing is.stay (is.codes ∙ ap codes_of is.tree) in
    ap₂ (λ (ms : List Recode) (ds : List ℕ). sum_from ms ds added) pairs is.go
    ∙ ap (λ (ns : List ℕ). sum_from (differing (with_rows (counts_in t) (codes_of t)) (codes_of (whole t))) (without_rows (counts_in t) (codes_of t)) ns) is.none

pub change_normal : (t u : Tree (Item Body)) (alive : ℕ) (stayed after left added : List ℕ) (moved : List Recode) → height t ≤ 63 → alive ≡ live (inorder t) → alive < 2 ^ 32 → IsMade t u stayed after left added moved → IsNormal (sum_from moved left added)
change_normal t u alive stayed after left added moved high e few is =
    subst IsNormal (sym (change_is t u stayed after left added moved is)) (swept_normal t high (whole_short t alive e few))

-- ---- as many codes stay as items

length-with : (ns xs ys : List ℕ) → length xs ≡ length ys → length (with_rows ns xs) ≡ length (with_rows ns ys)
unfolding with_rows
length-with [] xs ys e = refl
length-with (n ∷ ns) [] [] e = refl
length-with (n ∷ ns) [] (y ∷ ys) e = absurd (omega arith)
length-with (n ∷ ns) (x ∷ xs) [] e = absurd (omega arith)
length-with (zero ∷ ns) (x ∷ xs) (y ∷ ys) e = length-with ns xs ys (omega arith)
length-with (suc n ∷ ns) (x ∷ xs) (y ∷ ys) e = ap suc (length-with ns xs ys (omega arith))

many_live : (items : List (Item Body)) → live items ≡ length (with_rows (map (λ item. item.count) items) (map (λ item. item.count) items))
unfolding item_counts
many_live items = live-counts items

many_whole : (t : Tree (Item Body)) → size (whole t) ≡ live (inorder t)
unfolding whole live
many_whole t = size-balanced (live_items (inorder t))

pub as_many : (t u : Tree (Item Body)) (stayed after : List ℕ) → stayed ≡ with_rows (counts_in t) (codes_of t) → u ≡ whole t → after ≡ codes_of u → length stayed ≡ length after
as_many t u stayed after stay tree codes =
    let each : length (codes_of t) ≡ length (counts_in t) = omega (arith, length-codes_of t, length-inorder t, length-map (inorder t) (λ (item : Item Body). item.count)) in
    ap (λ (xs : List ℕ). length xs) stay
    ∙ length-with (counts_in t) (codes_of t) (counts_in t) each
    ∙ sym (many_live (inorder t))
    ∙ sym (many_whole t)
    ∙ sym (length-codes_of (whole t))
    ∙ ap (λ (v : Tree (Item Body)). length (codes_of v)) (sym tree)
    ∙ ap (λ (xs : List ℕ). length xs) (sym codes)

-- ---- the column

-- the test of the code, of numbers that are these
pub record IsTested (most : ℕ) (items : List (Item Body)) (b : Bool) : Type 0 where
  pub few : ℕ
  pub many : ℕ
  pub few_is : few ≡ live items
  pub many_is : many ≡ most
  pub test : IsTrue b ↔ (3 * few < 2 * many)

pub tested : (most alive few many : ℕ) (items : List (Item Body)) (b : Bool) → alive ≡ live items → few ≡ alive → many ≡ most → (IsTrue b ↔ (3 * few < 2 * many)) → IsTested most items b
tested most alive few many items b e f g test = record { few = few; many = many; few_is = f ∙ e; many_is = g; test = test }

pub is_sparse-true : (most : ℕ) (items : List (Item Body)) (b : Bool) → IsTested most items b → b ≡ true → is_sparse most items ≡ true
unfolding is_sparse
is_sparse-true most items b is on =
    let lt : 3 * is.few < 2 * is.many = is.test.0 (subst IsTrue (sym on) refl) in
    lt-ltb (3 * live items) (2 * most) (omega (arith, lt, is.few_is, is.many_is))

pub is_sparse-false : (most : ℕ) (items : List (Item Body)) (b : Bool) → IsTested most items b → b ≡ false → is_sparse most items ≡ false
unfolding is_sparse
is_sparse-false most items b is off =
    elim (cases_lt (3 * is.few) (2 * is.many)) [
      | inl lt ↦ absurd (let on : IsTrue b = is.test.1 lt in let f : false ≡ true = sym off ∙ on in cc)
      | inr ge ↦ le-ltb (3 * live items) (2 * most) (omega (arith, ge, is.few_is, is.many_is))
    ]

pub apart : {P : Type 0} (b : Bool) → b ≡ true → b ≡ false → P
apart b on off = absurd (let f : true ≡ false = sym on ∙ off in cc)

abbrev pub column : Tree (Item Body) → ℕ → Column Body
column t most = record { tree = t; most = most }

pub pruned-sparse : (t u : Tree (Item Body)) (most alive most' : ℕ) → is_sparse most (inorder t) ≡ true → alive ≡ live (inorder t) → u ≡ whole t → most' ≡ alive → column u most' ≡ pruned t most
unfolding pruned shrunk
pruned-sparse t u most alive most' sparse e tree f = rw sparse (ap₂ column tree (f ∙ e))

pub pruned-enough : (t : Tree (Item Body)) (most : ℕ) → is_sparse most (inorder t) ≡ false → column t most ≡ pruned t most
unfolding pruned shrunk
pruned-enough t most enough = rw enough refl

-- all items of the swept tree are live
pub alive_swept : (t u : Tree (Item Body)) (alive n : ℕ) → alive ≡ live (inorder t) → u ≡ whole t → n ≡ alive → n ≡ live (inorder u)
unfolding live
alive_swept t u alive n e tree f =
    f ∙ e ∙ sym (live-live_items (inorder t)) ∙ ap live (sym (inorder-whole t)) ∙ ap (λ (v : Tree (Item Body)). live (inorder v)) (sym tree)

-- ---- answers that are handed on

pub IfOk-both : {A E : Type 0} (P Q R : A → Type 0) → ((x : A) → P x → Q x → R x) → (r : Result A E) → IfOk r P → IfOk r Q → IfOk r R
IfOk-both P Q R f (Ok x) p q = f x p q
IfOk-both P Q R f (Err e) p q = p
