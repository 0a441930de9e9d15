-- Rows read by codes and by values are selected, ordered and chosen alike.
use Rattle.std.proofs.Common.{◌≡◌, ◌↔◌, ℕ, ◌<◌, ◌≤◌, ◌^◌, Bool, true, false, ◌&&◌, ◌==◌, leb, ltb, eqb, List, [], ◌∷◌, length, map, filter, take, get_or, slice_get, Option, Some, None, refl, ap, ap₂, ◌∙◌, sym, subst, inl, inr, arith}
use Rattle.std.proofs.lemmas.Bool.{cases_Bool}
use Rattle.std.proofs.lemmas.List.{length-map, get_or-map}
use Rattle.std.specs.List.{All}
use Rattle.std.proofs.lemmas.List.Elements.{All-head, All-tail, All-same, All-filter}
use Rattle.mope_base.specs.declared.body.Body.{Body}
use Rattle.mope_base.specs.declared.numbers.ColNo.{ColNo}
use Rattle.sql_text.specs.declared.Test.{Test}
use Rattle.sql_text.specs.declared.Test.TheVariants as test
use Rattle.tree_model.specs.declared.Place.{Place}
use Rattle.tree_model.specs.declared.Place.TheVariants.{Found}
use Rattle.tree_model.specs.Trees.{Tree, inorder, size, height, path}
use Rattle.tree_model.specs.Places.{place, holds, IsIncreasing}
use Rattle.tree_model.specs.Walks.{place_in}
use Rattle.tree_model.specs.Items.{Item, values}
use Rattle.tree_model.specs.Columns.{Column, items_of}
use Rattle.tree_model.proofs.Ordered.{place-IsFound, holds-at}
use Rattle.tree_model.proofs.Ways.{length-inorder, length-path}
use Rattle.path_code.specs.Codes.{code_of, code_within}
use Rattle.path_code.specs.Laws.{code_in, SelectsByCode, ComparesByCode}
use Rattle.path_code.specs.Sums.{item_code}
use Rattle.path_code.proofs.Spelling.{code_of-positive, code_within-lt}
use Rattle.path_code.proofs.Rising.{tree_codes_select}
use Rattle.table_model.specs.Stores.{Kept, Shelf}
use Rattle.table_model.specs.Soundness.{column_at, ranks_at, readings_at}
use Rattle.table_model.proofs.ShelfSoundOps.{shelf_fits_rows}
use Rattle.enc_table.specs.Rows.{row_code}
use Rattle.enc_table.specs.Seen.{Seen, IsTable}
use Rattle.workload.specs.declared.script.Ask.{Ask}
use Rattle.workload.specs.declared.script.Verb.{Verb}
use Rattle.workload.specs.declared.script.Verb.TheVariants as verb
use Rattle.workload.specs.Selection.{meets, passes, insert_ordered, ordered, by_column, in_order, first_of, chosen, selected}
use Rattle.sql_plan.specs.Bounds.{top, test_by}
use Rattle.sql_plan.specs.Plans.{by_code, HasOrder}
use Rattle.sql_plan.specs.Readings.{by_value, Reads, place_code, test_number, first_constant, second_constant, test_of_codes, condition_of_codes, ask_of_codes}
use Rattle.sql_plan.specs.Laws.{HasCodes, HasVerb, HasColumns}
use Rattle.sql_plan.proofs.RowCodes.{Facts, facts-of}
use Rattle.sql_plan.proofs.Filtering.{filter-same}
use Rattle.sql_plan.proofs.Orderings.{insert-kept, insert-passed, insert-nothing, ordered-nothing, ordered-cons, All-ordered}

-- ---- lists put in order by two comparisons that agree on their elements

module _ {A : Type 0} (one two : A → A → Bool) (P : A → Type 0) (agree : (x y : A) → P x → P y → one x y ≡ two x y) where
  insert-alike : (x : A) (ys : List A) → P x → All P ys → insert_ordered one x ys ≡ insert_ordered two x ys
  insert-alike x [] px all = insert-nothing one x ∙ sym (insert-nothing two x)
  insert-alike x (y ∷ ys) px all =
      let same = agree x y px (All-head P y ys all) in
      elim (cases_Bool (two x y)) [
        | inl h ↦ insert-kept one x y ys (same ∙ h) ∙ sym (insert-kept two x y ys h)
        | inr h ↦ insert-passed one x y ys (same ∙ h) ∙ ap (λ (zs : List A). y ∷ zs) (insert-alike x ys px (All-tail P y ys all)) ∙ sym (insert-passed two x y ys h)
      ]

  pub ordered-alike : (xs : List A) → All P xs → ordered one xs ≡ ordered two xs
  ordered-alike [] all = ordered-nothing one ∙ sym (ordered-nothing two)
  ordered-alike (x ∷ xs) all =
      let later = All-tail P x xs all in
      ordered-cons one x xs ∙ ap (insert_ordered one x) (ordered-alike xs later)
      ∙ insert-alike x (ordered two xs) (All-head P x xs all) (All-ordered two P xs later) ∙ sym (ordered-cons two x xs)

-- ---- a row beside its item

pub record OwnsItem (v : Body → ℕ) (s : Shelf Body) (column : ℕ) (row : Kept Body) : Type 0 where
  pub within : get_or row.ranks column 0 < size (column_at s.columns column).tree
  pub reads : get_or (map v row.bodies) column 0 ≡ get_or (values v (items_of (column_at s.columns column))) (get_or row.ranks column 0) 0

abbrev pub Owns : (Body → ℕ) → Shelf Body → Kept Body → Type 0
Owns v s row = (column : ColNo) → column.0 < length s.columns → OwnsItem v s column.0 row

a_row : Kept Body
a_row = record { number = 0; bodies = []; ranks = [] }

rank-held : (column : ℕ) (kept : List (Kept Body)) (k : ℕ) (d : Kept Body) → k < length kept → holds (get_or (get_or kept k d).ranks column 0) (ranks_at column kept) ≡ true
unfolding ranks_at
rank-held column kept k d lt =
    let f : Kept Body → ℕ = λ (row : Kept Body). get_or row.ranks column 0 in
    let few : k < length (map f kept) = omega (arith, length-map kept f) in
    ap (λ (rank : ℕ). holds rank (map f kept)) (sym (get_or-map f kept k d 0 lt)) ∙ holds-at (map f kept) k 0 few

reads-at : (v : Body → ℕ) (s : Shelf Body) (column k : ℕ) (d : Kept Body) → k < length s.kept
    → readings_at v column s.kept ≡ map (λ rank. get_or (values v (items_of (column_at s.columns column))) rank 0) (ranks_at column s.kept)
    → get_or (map v (get_or s.kept k d).bodies) column 0 ≡ get_or (values v (items_of (column_at s.columns column))) (get_or (get_or s.kept k d).ranks column 0) 0
unfolding readings_at ranks_at
reads-at v s column k d lt same =
    let f : Kept Body → ℕ = λ (row : Kept Body). get_or row.ranks column 0 in
    let g : Kept Body → ℕ = λ (row : Kept Body). get_or (map v row.bodies) column 0 in
    let h : ℕ → ℕ = λ (rank : ℕ). get_or (values v (items_of (column_at s.columns column))) rank 0 in
    let few : k < length (map f s.kept) = omega (arith, length-map s.kept f) in
    sym (get_or-map g s.kept k d 0 lt) ∙ ap (λ (xs : List ℕ). get_or xs k 0) same ∙ get_or-map h (map f s.kept) k 0 0 few ∙ ap h (get_or-map f s.kept k d 0 lt)

pub owns-rows : (v : Body → ℕ) (t : Seen) → IsTable t → Reads v t.shelf → All (Owns v t.shelf) t.shelf.kept
owns-rows v t is reads k d lt = λ column there. record {
  within = (shelf_fits_rows t.same_time t.limit t.shelf column.0 is.sound there).within (get_or (get_or t.shelf.kept k d).ranks column.0 0) (rank-held column.0 t.shelf.kept k d lt);
  reads = reads-at v t.shelf column.0 k d lt (reads.rows column.0 there);
}

-- ---- tests of codes and of values

module _ (v : Body → ℕ) (s : Shelf Body) (facts : Facts s) (reads : Reads v s) (column : ColNo) (there : column.0 < length s.columns) where
  abbrev tree : Tree (Item Body)
  tree = (column_at s.columns column.0).tree

  abbrev value_of : Item Body → ℕ
  value_of item = v item.body

  an_item : Item Body
  an_item = record { body = record { nonce = 0; masked = 0 }; count = 0 }

  value-is : (row : Kept Body) → OwnsItem v s column.0 row → by_value v column row ≡ value_of (get_or (inorder tree) (get_or row.ranks column.0 0) an_item)
  unfolding by_value values items_of
  value-is row owns =
      let few : get_or row.ranks column.0 0 < length (inorder tree) = omega (arith, owns.within, length-inorder tree) in
      owns.reads ∙ get_or-map value_of (inorder tree) (get_or row.ranks column.0 0) an_item 0 few

  selects : (row : Kept Body) → OwnsItem v s column.0 row → SelectsByCode (Item Body) value_of tree (by_value v column row) (by_code s column row)
  unfolding by_code row_code item_code values items_of
  selects row owns =
      subst (λ (x : ℕ). SelectsByCode (Item Body) value_of tree x (by_code s column row)) (sym (value-is row owns))
      (tree_codes_select value_of tree (get_or row.ranks column.0 0) an_item (reads.rise column.0 there) (facts.low column.0 there) owns.within)

  pub compares : (row : Kept Body) (c : ℕ) → OwnsItem v s column.0 row → ComparesByCode (by_value v column row) c (by_code s column row) (place_code v s column c)
  unfolding place_code place_in values items_of
  compares row c owns = (selects row owns).by_bound c

  pub meets-alike : (t : Test) (row : Kept Body) → OwnsItem v s column.0 row → meets (test_of_codes v s column t) (by_code s column row) ≡ meets t (by_value v column row)
  unfolding meets test_of_codes test_by test_number first_constant second_constant
  meets-alike (test.Eq c) row owns = sym (compares row c owns).equal
  meets-alike (test.Lt c) row owns = sym (compares row c owns).less
  meets-alike (test.Le c) row owns = sym (compares row c owns).at_most
  meets-alike (test.Gt c) row owns = sym (compares row c owns).greater
  meets-alike (test.Ge c) row owns = sym (compares row c owns).at_least
  meets-alike (test.Between low high) row owns = ap₂ (λ (a b : Bool). a && b) (sym (compares row low owns).at_least) (sym (compares row high owns).at_most)

  length-values : length (values v (items_of (column_at s.columns column.0))) ≡ size tree
  unfolding values items_of
  length-values = length-map (inorder tree) value_of ∙ length-inorder tree

  -- the code of a row's value is its own
  place-own : (row : Kept Body) → OwnsItem v s column.0 row → place_code v s column (by_value v column row) ≡ by_code s column row
  unfolding place_code by_code row_code item_code by_value
  place-own row owns =
      let few : get_or row.ranks column.0 0 < length (values v (items_of (column_at s.columns column.0))) = omega (arith, owns.within, length-values) in
      ap (λ (p : Place). code_of (path tree p))
      (place-IsFound (values v (items_of (column_at s.columns column.0))) (by_value v column row) (get_or row.ranks column.0 0) 0 (reads.rise column.0 there) few (sym owns.reads))

  pub orders-alike : (x y : Kept Body) → OwnsItem v s column.0 x → OwnsItem v s column.0 y → leb (by_code s column x) (by_code s column y) ≡ leb (by_value v column x) (by_value v column y)
  orders-alike x y own_x own_y =
      ap (leb (by_code s column x)) (sym (place-own y own_y)) ∙ sym (compares x (by_value v column y) own_x).at_most

-- ---- selection

module _ (v : Body → ℕ) (s : Shelf Body) (facts : Facts s) (reads : Reads v s) where
  abbrev In : ColNo × Test → Type 0
  In condition = condition.0.0 < length s.columns

  passes-values : (conditions : List (ColNo × Test)) (row : Kept Body) → All In conditions → Owns v s row → passes (by_code s) (map (condition_of_codes v s) conditions) row ≡ passes (by_value v) conditions row
  unfolding passes condition_of_codes
  passes-values [] row there owns = refl
  passes-values (c ∷ conditions) row there owns =
      let here = All-head In c conditions there in
      ap₂ (λ (a b : Bool). a && b) (meets-alike v s facts reads c.0 here c.1 row (owns c.0 here)) (passes-values conditions row (All-tail In c conditions there) owns)

  pub filter-values : (conditions : List (ColNo × Test)) (rows : List (Kept Body)) → All In conditions → All (Owns v s) rows → filter (passes (by_code s) (map (condition_of_codes v s) conditions)) rows ≡ filter (passes (by_value v) conditions) rows
  filter-values conditions rows there owns =
      filter-same (passes (by_value v) conditions) (passes (by_code s) (map (condition_of_codes v s) conditions)) rows (λ k d lt. passes-values conditions (get_or rows k d) there (owns k d lt))

  column-alike : (column : ColNo) (down : Bool) → column.0 < length s.columns → (x y : Kept Body) → Owns v s x → Owns v s y → by_column (by_code s) column down x y ≡ by_column (by_value v) column down x y
  unfolding by_column
  column-alike column false there x y own_x own_y = orders-alike v s facts reads column there x y (own_x column there) (own_y column there)
  column-alike column true there x y own_x own_y = orders-alike v s facts reads column there y x (own_y column there) (own_x column there)

  by_column-alike : (column : ColNo) (down : Bool) → column.0 < length s.columns → (rows : List (Kept Body)) → All (Owns v s) rows → ordered (by_column (by_code s) column down) rows ≡ ordered (by_column (by_value v) column down) rows
  by_column-alike column down there rows owns = ordered-alike (by_column (by_code s) column down) (by_column (by_value v) column down) (Owns v s) (column-alike column down there) rows owns

  in_order-alike : (order : Option (ColNo × Bool)) → HasOrder s order → (rows : List (Kept Body)) → All (Owns v s) rows → in_order (by_code s) order rows ≡ in_order (by_value v) order rows
  unfolding in_order
  in_order-alike None there rows owns = refl
  in_order-alike (Some order) there rows owns = by_column-alike order.0 order.1 there rows owns

  pub chosen-alike : (verb : Verb) → HasVerb s verb → (rows : List (Kept Body)) → All (Owns v s) rows → chosen (by_code s) verb rows ≡ chosen (by_value v) verb rows
  unfolding chosen
  chosen-alike (verb.Rows columns order limit) there rows owns = ap (first_of limit) (in_order-alike order there rows owns)
  chosen-alike verb.Count there rows owns = refl
  chosen-alike (verb.Min column) there rows owns = ap (take 1) (by_column-alike column false there rows owns)
  chosen-alike (verb.Max column) there rows owns = ap (take 1) (by_column-alike column true there rows owns)
  chosen-alike verb.Delete there rows owns = refl

pub codes_select_rows : (v : Body → ℕ) (t : Seen) (ask : Ask) → IsTable t → Reads v t.shelf → HasColumns t.shelf ask → selected (by_code t.shelf) (ask_of_codes v t.shelf ask) t.shelf.kept ≡ selected (by_value v) ask t.shelf.kept
unfolding selected ask_of_codes
codes_select_rows v t ask is reads has =
    let facts = facts-of t is in
    let owns = owns-rows v t is reads in
    ap (chosen (by_code t.shelf) ask.verb) (filter-values v t.shelf facts reads ask.tests t.shelf.kept has.tests owns)
    ∙ chosen-alike v t.shelf facts reads ask.verb has.verb (filter (passes (by_value v) ask.tests) t.shelf.kept) (All-filter (passes (by_value v) ask.tests) (Owns v t.shelf) t.shelf.kept owns)

-- ---- the codes of places

pub code-top : {A : Type 0} (t : Tree A) (p : Place) → height t ≤ 63 → (1 ≤ code_in t p) × (code_in t p ≤ top)
unfolding code_of
code-top t p low =
    let some = code_of-positive (path t p) in
    let fits : code_within 63 (path t p) < 2 ^ 64 = code_within-lt 63 (path t p) (omega (arith, length-path t p)) in
    (omega (arith, some), omega arith)
