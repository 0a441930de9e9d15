-- The rows that a selection finds are rows of its table, told by their numbers.
use Rattle.std.proofs.Common.{◌≡◌, ℕ, zero, suc, ◌+◌, ◌<◌, ◌≤◌, ◌==◌, ◌||◌, Bool, true, false, List, [], ◌∷◌, ◌++◌, length, get_or, slice_get, map, filter, take, flat_map, Option, Some, None, IsSome, refl, ap, ap₂, sym, subst, ◌∙◌, arith, inl, inr, eq-eqb, ne_eqb, append_assoc}
use Rattle.std.specs.List.{All}
use Rattle.std.specs.Option.{unwrap_or}
use Rattle.std.proofs.lemmas.Bool.{cases_Bool}
use Rattle.std.proofs.lemmas.List.{length-map, length-take, get_or-map, map-append, take_more, flat_map_more}
use Rattle.std.proofs.lemmas.List.Elements.{All-nil, All-cons, All-head, All-tail, All-map, All-weaker, All-filter, All-take}
use Rattle.mope_base.specs.declared.body.Body.{Body}
use Rattle.mope_base.specs.declared.numbers.ColNo.{ColNo}
use Rattle.tree_model.specs.Places.{holds, IsBelowAll, IsIncreasing}
use Rattle.tree_model.proofs.Ordered.{holds-at}
use Rattle.table_model.specs.Stores.{Kept, Shelf}
use Rattle.table_model.specs.Changes.{here_or, of_row}
use Rattle.table_model.specs.Soundness.{kept_numbers}
use Rattle.table_model.specs.ShelfSoundness.{AllFull}
use Rattle.table_model.specs.Fitting.{AllAmong}
use Rattle.enc_table.specs.Rows.{bodies_of, body_at, no_body}
use Rattle.sql_plan.specs.declared.bounds.Bound.{Bound}
use Rattle.sql_plan.specs.declared.bounds.Query.{Query}
use Rattle.sql_plan.specs.Plans.{by_code, passing, rows_found, extreme_verb, extreme_found}
use Rattle.sql_plan.proofs.RowCodes.{Facts, rows-above}
use Rattle.sql_plan.proofs.Filtering.{filter-yes, filter-no}
use Rattle.workload.specs.declared.script.Verb.{Verb}
use Rattle.workload.specs.declared.script.Verb.TheVariants as verb
use Rattle.workload.specs.Selection.{passes, in_front, insert_ordered, ordered, by_column, in_order, first_of, chosen}
use Rattle.server_conn.specs.Serving.{bodies_in}
use Rattle.server_conn.specs.Asking.{bodies_by, extreme_numbers}

-- ---- what is true of each row stays so

all-front : {A : Type 0} (P : A → Type 0) (first : Bool) (x y : A) (ys rest : List A) → P x → All P (y ∷ ys) → All P rest → All P (in_front first x y ys rest)
unfolding in_front
all-front P true x y ys rest here all more = All-cons P x (y ∷ ys) here all
all-front P false x y ys rest here all more = All-cons P y rest (All-head P y ys all) more

all-insert : {A : Type 0} (P : A → Type 0) (before : A → A → Bool) (x : A) (ys : List A) → P x → All P ys → All P (insert_ordered before x ys)
unfolding insert_ordered
all-insert P before x [] here all = All-cons P x [] here (All-nil P)
all-insert P before x (y ∷ ys) here all = all-front P (before x y) x y ys (insert_ordered before x ys) here all (all-insert P before x ys here (All-tail P y ys all))

all-ordered : {A : Type 0} (P : A → Type 0) (before : A → A → Bool) (xs : List A) → All P xs → All P (ordered before xs)
unfolding ordered
all-ordered P before [] all = All-nil P
all-ordered P before (x ∷ xs) all = all-insert P before x (ordered before xs) (All-head P x xs all) (all-ordered P before xs (All-tail P x xs all))

all-in_order : {A : Type 0} (P : A → Type 0) (at : ColNo → A → ℕ) (order : Option (ColNo × Bool)) (rows : List A) → All P rows → All P (in_order at order rows)
unfolding in_order
all-in_order P at None rows all = all
all-in_order P at (Some order) rows all = all-ordered P (by_column at order.0 order.1) rows all

all-first : {A : Type 0} (P : A → Type 0) (limit : Option ℕ) (rows : List A) → All P rows → All P (first_of limit rows)
unfolding first_of
all-first P None rows all = all
all-first P (Some limit) rows all = All-take P limit rows all

pub all-chosen : {A : Type 0} (P : A → Type 0) (at : ColNo → A → ℕ) (v : Verb) (rows : List A) → All P rows → All P (chosen at v rows)
unfolding chosen
all-chosen P at (verb.Rows columns order limit) rows all = all-first P limit (in_order at order rows) (all-in_order P at order rows all)
all-chosen P at verb.Count rows all = all
all-chosen P at (verb.Min column) rows all = All-take P 1 (ordered (by_column at column false) rows) (all-ordered P (by_column at column false) rows all)
all-chosen P at (verb.Max column) rows all = All-take P 1 (ordered (by_column at column true) rows) (all-ordered P (by_column at column true) rows all)
all-chosen P at verb.Delete rows all = all

-- ---- rows of a table

pub record IsRowOf (s : Shelf Body) (row : Kept Body) : Type 0 where
  pub told : bodies_of row.number s.kept ≡ row.bodies
  pub held : holds row.number (kept_numbers s.kept) ≡ true

bodies-here : (row : Kept Body) (kept : List (Kept Body)) → bodies_of row.number (row ∷ kept) ≡ row.bodies
unfolding bodies_of of_row here_or
bodies-here row kept = rw (eq-eqb row.number row.number refl) refl

bodies-later : (number : ℕ) (row : Kept Body) (kept : List (Kept Body)) → row.number < number → bodies_of number (row ∷ kept) ≡ bodies_of number kept
unfolding bodies_of of_row here_or
bodies-later number row kept lt = rw (ne_eqb row.number number (λ same. omega arith)) refl

bodies-rows : (kept : List (Kept Body)) → IsIncreasing (kept_numbers kept) → All (λ (row : Kept Body). bodies_of row.number kept ≡ row.bodies) kept
unfolding IsIncreasing kept_numbers
bodies-rows [] up = All-nil (λ (row : Kept Body). bodies_of row.number [] ≡ row.bodies)
bodies-rows (row ∷ kept) up =
    All-cons (λ (r : Kept Body). bodies_of r.number (row ∷ kept) ≡ r.bodies) row kept (bodies-here row kept)
    (λ k d lt. bodies-later (get_or kept k d).number row kept (rows-above row.number kept up.0 k d lt) ∙ bodies-rows kept up.1 k d lt)

number-held : (kept : List (Kept Body)) (k : ℕ) (d : Kept Body) → k < length kept → holds (get_or kept k d).number (kept_numbers kept) ≡ true
unfolding kept_numbers
number-held kept k d lt =
    let f : Kept Body → ℕ = λ (row : Kept Body). row.number in
    let few : k < length (map f kept) = omega (arith, length-map kept f) in
    ap (λ (number : ℕ). holds number (map f kept)) (sym (get_or-map f kept k d 0 lt)) ∙ holds-at (map f kept) k 0 few

rows-of : (s : Shelf Body) → Facts s → All (IsRowOf s) s.kept
rows-of s facts k d lt = record { told = bodies-rows s.kept facts.rise k d lt; held = number-held s.kept k d lt }

pub passing-rows : (s : Shelf Body) (bounds : List Bound) → Facts s → All (IsRowOf s) (passing s bounds)
unfolding passing
passing-rows s bounds facts = All-filter _ (IsRowOf s) s.kept (rows-of s facts)

pub numbers-held : (s : Shelf Body) (rows : List (Kept Body)) → All (IsRowOf s) rows → All (λ (number : ℕ). holds number (kept_numbers s.kept) ≡ true) (kept_numbers rows)
unfolding kept_numbers
numbers-held s rows all =
    All-map (λ (number : ℕ). holds number (kept_numbers s.kept) ≡ true) (λ (row : Kept Body). row.number) rows
    (All-weaker (IsRowOf s) (λ (row : Kept Body). holds row.number (kept_numbers s.kept) ≡ true) (λ row is. is.held) rows all)

pub found-held : (s : Shelf Body) (q : Query) → Facts s → All (λ (number : ℕ). holds number (kept_numbers s.kept) ≡ true) (rows_found s q)
unfolding rows_found
found-held s q facts =
    numbers-held s (chosen (by_code s) (verb.Rows [] q.order q.limit) (passing s q.bounds)) (all-chosen (IsRowOf s) (by_code s) (verb.Rows [] q.order q.limit) (passing s q.bounds) (passing-rows s q.bounds facts))

-- ---- their bodies

abbrev pub columns_of : List ℕ → List ColNo
columns_of columns = map (λ (column : ℕ). record { 0 = column }) columns

got-or : {A : Type 0} (xs : List A) (i : ℕ) (d : A) → unwrap_or (slice_get xs i) d ≡ get_or xs i d
got-or [] zero d = refl
got-or [] (suc i) d = refl
got-or (x ∷ xs) zero d = refl
got-or (x ∷ xs) (suc i) d = got-or xs i d

row-bodies : (s : Shelf Body) (columns : List ℕ) (row : Kept Body) → IsRowOf s row → bodies_by s columns row.number ≡ bodies_in (columns_of columns) row
unfolding bodies_by bodies_in body_at
row-bodies s [] row is = refl
row-bodies s (column ∷ columns) row is =
    ap₂ (λ (b : Body) (bs : List Body). b ∷ bs)
    (ap (λ (bodies : List Body). unwrap_or (slice_get bodies column) no_body) is.told ∙ got-or row.bodies column no_body)
    (row-bodies s columns row is)

pub bodies-given : (s : Shelf Body) (columns : List ℕ) (rows : List (Kept Body)) → All (IsRowOf s) rows → flat_map (bodies_by s columns) (kept_numbers rows) ≡ flat_map (bodies_in (columns_of columns)) rows
unfolding kept_numbers
bodies-given s columns [] all = refl
bodies-given s columns (row ∷ rows) all =
    ap₂ (λ (xs ys : List Body). xs ++ ys) (row-bodies s columns row (All-head (IsRowOf s) row rows all)) (bodies-given s columns rows (All-tail (IsRowOf s) row rows all))

-- a row that is held has a body in each column
got-some : {A : Type 0} (xs : List A) (i : ℕ) → i < length xs → IsSome (slice_get xs i)
got-some [] i h = absurd (omega (arith, h))
got-some (x ∷ xs) zero h = refl
got-some (x ∷ xs) (suc i) h = got-some xs i (omega (arith, h))

wide-here : (b : Bool) (number width : ℕ) (row : Kept Body) (kept : List (Kept Body)) → length row.bodies ≡ width → (b ≡ false → length (bodies_of number kept) ≡ width) → length (here_or b row.bodies (bodies_of number kept)) ≡ width
unfolding here_or
wide-here true number width row kept wide later = wide
wide-here false number width row kept wide later = later refl

or-second : (a b : Bool) → (a || b) ≡ true → a ≡ false → b ≡ true
or-second true b is other = cc
or-second false b is _ = is

wide-held : (kept : List (Kept Body)) (number width : ℕ) → AllFull width kept → holds number (kept_numbers kept) ≡ true → length (bodies_of number kept) ≡ width
unfolding AllFull holds kept_numbers bodies_of of_row
wide-held [] number width full held = cc
wide-held (row ∷ kept) number width full held =
    wide-here (row.number == number) number width row kept full.0 (λ other. wide-held kept number width full.2 (or-second (row.number == number) (holds number (kept_numbers kept)) held other))

pub body-there : (s : Shelf Body) (number column : ℕ) → Facts s → holds number (kept_numbers s.kept) ≡ true → column < length s.columns → IsSome (body_at number column s)
unfolding body_at
body-there s number column facts held there = let e = wide-held s.kept number (length s.columns) facts.full held in got-some (bodies_of number s.kept) column (omega (arith, e, there))

-- ---- their numbers rise

below-filter : (p : Kept Body → Bool) (number : ℕ) (rows : List (Kept Body)) → IsBelowAll number (kept_numbers rows) → IsBelowAll number (kept_numbers (filter p rows))
unfolding IsBelowAll kept_numbers
below-filter p number [] all = tt
below-filter p number (row ∷ rows) all =
    elim (cases_Bool (p row)) [
      | inl here ↦ subst (λ (rs : List (Kept Body)). IsBelowAll number (kept_numbers rs)) (sym (filter-yes p row rows here)) (all.0, below-filter p number rows all.1)
      | inr other ↦ subst (λ (rs : List (Kept Body)). IsBelowAll number (kept_numbers rs)) (sym (filter-no p row rows other)) (below-filter p number rows all.1)
    ]

rise-filter : (p : Kept Body → Bool) (rows : List (Kept Body)) → IsIncreasing (kept_numbers rows) → IsIncreasing (kept_numbers (filter p rows))
unfolding IsIncreasing kept_numbers
rise-filter p [] up = tt
rise-filter p (row ∷ rows) up =
    elim (cases_Bool (p row)) [
      | inl here ↦ subst (λ (rs : List (Kept Body)). IsIncreasing (kept_numbers rs)) (sym (filter-yes p row rows here)) (below-filter p row.number rows up.0, rise-filter p rows up.1)
      | inr other ↦ subst (λ (rs : List (Kept Body)). IsIncreasing (kept_numbers rs)) (sym (filter-no p row rows other)) (rise-filter p rows up.1)
    ]

pub passing-rise : (s : Shelf Body) (bounds : List Bound) → Facts s → IsIncreasing (kept_numbers (passing s bounds))
unfolding passing
passing-rise s bounds facts = rise-filter _ s.kept facts.rise

all-among : (numbers xs : List ℕ) → All (λ (x : ℕ). holds x numbers ≡ true) xs → AllAmong numbers xs
unfolding AllAmong
all-among numbers [] all = tt
all-among numbers (x ∷ xs) all = let P : ℕ → Type 0 = λ (y : ℕ). holds y numbers ≡ true in (All-head P x xs all, all-among numbers xs (All-tail P x xs all))

pub passing-among : (s : Shelf Body) (bounds : List Bound) → Facts s → AllAmong (kept_numbers s.kept) (kept_numbers (passing s bounds))
passing-among s bounds facts = all-among (kept_numbers s.kept) (kept_numbers (passing s bounds)) (numbers-held s (passing s bounds) (passing-rows s bounds facts))

-- ---- one body more, and one row more

pub row-more : (s : Shelf Body) (columns : List ℕ) (row i : ℕ) (before now after : List Body) (b : Body) → i < length columns → body_at row (get_or columns i 0) s ≡ Some b → now ≡ before ++ bodies_by s (take i columns) row → after ≡ now ++ b ∷ []
    → after ≡ before ++ bodies_by s (take (i + 1) columns) row
unfolding bodies_by
row-more s columns row i before now after b h there is pushed =
    let f : ℕ → Body = λ (column : ℕ). unwrap_or (body_at row column s) no_body in
    pushed
    ∙ ap (λ (bs : List Body). bs ++ b ∷ []) is
    ∙ append_assoc before (map f (take i columns)) (b ∷ [])
    ∙ ap (λ (o : Option Body). before ++ (map f (take i columns) ++ unwrap_or o no_body ∷ [])) (sym there)
    ∙ ap (λ (bs : List Body). before ++ bs) (sym (map-append f (take i columns) (get_or columns i 0 ∷ [])) ∙ ap (map f) (sym (take_more columns i 0 h)))

pub rows-more : (s : Shelf Body) (columns rows : List ℕ) (i : ℕ) (now after : List Body) → i < length rows → now ≡ flat_map (bodies_by s columns) (take i rows) → after ≡ now ++ bodies_by s columns (get_or rows i 0)
    → after ≡ flat_map (bodies_by s columns) (take (i + 1) rows)
rows-more s columns rows i now after h is pushed =
    pushed
    ∙ ap (λ (bs : List Body). bs ++ bodies_by s columns (get_or rows i 0)) is
    ∙ flat_map_more (bodies_by s columns) [] (take i rows) (get_or rows i 0)
    ∙ ap (flat_map (bodies_by s columns)) (sym (take_more rows i 0 h))

-- ---- the one row of an extreme

few-extreme : {A : Type 0} (xs : List A) → length (take 1 xs) ≤ 1
few-extreme xs = omega (arith, length-take 1 xs)

first-alone : {A : Type 0} (xs : List A) (x : A) → length xs ≤ 1 → Some x ≡ slice_get xs 0 → xs ≡ x ∷ []
first-alone [] x few is = cc
first-alone (y ∷ []) x few is = cc
first-alone (y ∷ z ∷ xs) x few is = absurd (omega (arith, few))

first-none : {A : Type 0} (xs : List A) → None ≡ slice_get xs 0 → xs ≡ []
first-none [] is = refl
first-none (y ∷ xs) is = cc

extreme-few : (s : Shelf Body) (greatest : Bool) (column : ColNo) (rows : List (Kept Body)) → length (kept_numbers (chosen (by_code s) (extreme_verb greatest column) rows)) ≤ 1
unfolding extreme_verb chosen kept_numbers
extreme-few s false column rows =
    let xs = ordered (by_column (by_code s) column false) rows in
    let few = few-extreme xs in omega (arith, few, length-map (take 1 xs) (λ (row : Kept Body). row.number))
extreme-few s true column rows =
    let xs = ordered (by_column (by_code s) column true) rows in
    let few = few-extreme xs in omega (arith, few, length-map (take 1 xs) (λ (row : Kept Body). row.number))

pub extreme-none : (s : Shelf Body) (bounds : List Bound) (column : ℕ) (greatest : Bool) → None ≡ extreme_found s bounds (record { 0 = column }) greatest → flat_map (bodies_by s (column ∷ [])) (extreme_numbers s bounds column greatest) ≡ []
unfolding extreme_found extreme_numbers
extreme-none s bounds column greatest is = ap (flat_map (bodies_by s (column ∷ []))) (first-none (kept_numbers (chosen (by_code s) (extreme_verb greatest (record { 0 = column })) (passing s bounds))) is)

pub extreme-one : (s : Shelf Body) (bounds : List Bound) (column row : ℕ) (greatest : Bool) (b : Body) → Some row ≡ extreme_found s bounds (record { 0 = column }) greatest → body_at row column s ≡ Some b → flat_map (bodies_by s (column ∷ [])) (extreme_numbers s bounds column greatest) ≡ b ∷ []
unfolding extreme_found extreme_numbers bodies_by
extreme-one s bounds column row greatest b is there =
    ap (flat_map (bodies_by s (column ∷ []))) (first-alone (kept_numbers (chosen (by_code s) (extreme_verb greatest (record { 0 = column })) (passing s bounds))) row (extreme-few s greatest (record { 0 = column }) (passing s bounds)) is)
    ∙ ap (λ (o : Option Body). unwrap_or o no_body ∷ []) there

pub extreme-held : (s : Shelf Body) (bounds : List Bound) (column row : ℕ) (greatest : Bool) → Facts s → Some row ≡ extreme_found s bounds (record { 0 = column }) greatest → holds row (kept_numbers s.kept) ≡ true
unfolding extreme_found
extreme-held s bounds column row greatest facts is =
    let rows = chosen (by_code s) (extreme_verb greatest (record { 0 = column })) (passing s bounds) in
    let all = numbers-held s rows (all-chosen (IsRowOf s) (by_code s) (extreme_verb greatest (record { 0 = column })) (passing s bounds) (passing-rows s bounds facts)) in
    All-head (λ (number : ℕ). holds number (kept_numbers s.kept) ≡ true) row [] (subst (All (λ (number : ℕ). holds number (kept_numbers s.kept) ≡ true)) (first-alone (kept_numbers rows) row (extreme-few s greatest (record { 0 = column }) (passing s bounds)) is) all)
