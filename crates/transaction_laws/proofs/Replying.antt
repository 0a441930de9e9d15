-- The reply about rows of a world: the connection gives it, the client allows it, and it opens to the plain answer.
use Rattle.std.proofs.Common.{◌≡◌, ℕ, zero, suc, ◌+◌, ◌*◌, ◌%◌, ◌^◌, ◌<◌, ◌≤◌, Bool, true, false, not, ◌&&◌, ◌||◌, ◌==◌, eqb, leb, nat_lt, cond, List, [], ◌∷◌, ◌++◌, map, flat_map, filter, take, length, get_or, Option, Some, None, refl, ap, ap₂, ◌∙◌, sym, subst, arith, length-append}
use Rattle.std.proofs.lemmas.Bool.{eq-eqb, ne_eqb, le-leb, lt-ltb, le-ltb, or_from}
use Rattle.std.proofs.lemmas.List.{length-map, get_or-map}
use Rattle.std.proofs.lemmas.List.Folds.{flat_map-map}
use Rattle.std.proofs.Math.Nat.{add_comm, suc-mul, mul-mod_left, mul-le-mul_left}
use Rattle.std.specs.List.{All}
use Rattle.std.proofs.lemmas.List.Elements.{All-nil, All-cons, All-head, All-tail, All-filter, All-take}
use Rattle.mope_base.specs.Lists.{Each}
use Rattle.mope_base.specs.declared.body.Body.{Body}
use Rattle.mope_base.specs.declared.numbers.TableNo.{TableNo}
use Rattle.mope_base.specs.declared.numbers.ColNo.{ColNo}
use Rattle.table_model.specs.Stores.{Row, Store, Kept, map_kept, kept_of}
use Rattle.table_model.specs.Soundness.{cell_value, numbers_of, kept_numbers, AllWide}
use Rattle.table_model.proofs.Lists.{map-map}
use Rattle.enc_table.specs.Rows.{no_body}
use Rattle.value_cipher.specs.Cipher.{Cell, value_of, sealed, unseal_of}
use Rattle.walk_proto.specs.Rules.{is_rows}
use Rattle.walk_proto.specs.declared.messages.Reply.TheVariants as reply
use Rattle.workload.specs.declared.script.Answer.TheVariants as answer
use Rattle.workload.specs.declared.script.Ask.{Ask}
use Rattle.workload.specs.declared.script.Verb.{Verb}
use Rattle.workload.specs.declared.script.Verb.TheVariants as verb
use Rattle.workload.specs.Selection.{passes, in_front, insert_ordered, ordered, by_column, in_order, first_of, chosen, selected, values_at, first_value, answer_about}
use Rattle.proxy.specs.Allowed.{is_spelled, fits_rows, fits_count, answers_with}
use Rattle.proxy.specs.Client.{first_value as first_of_values, rows_answer, count_answer, answer_in}
use Rattle.sql_plan.proofs.Orderings.{All-ordered}
use Rattle.server_conn.specs.Connections.{Held}
use Rattle.server_conn.specs.Serving.{bodies_in, reply_about, changed_by, without_numbers}
use Rattle.transaction_laws.specs.Queries.{cell_at, rows_about, bodies_of, reply_with, done_about}
use Rattle.transaction_laws.proofs.AskedPlans.{unseals}
use Rattle.transaction_laws.proofs.ReadingRows.{sealed_row}

-- ---- what the connection gives

bodies-sealed : (key : List ℕ) (store : Store Cell) (columns : List ColNo) (rows : List (Row Cell)) → flat_map (bodies_in columns) (map (sealed_row key store) rows) ≡ flat_map (bodies_of key columns) rows
unfolding bodies_in bodies_of sealed_row map_kept kept_of
bodies-sealed key store columns rows = flat_map-map (bodies_in columns) (sealed_row key store) rows

pub reply-sealed : (key : List ℕ) (store : Store Cell) (v : Verb) (rows : List (Row Cell)) → reply_about v (map (sealed_row key store) rows) ≡ reply_with key v rows
unfolding reply_about reply_with
reply-sealed key store (verb.Rows columns order limit) rows = ap (reply.Rows (length columns)) (bodies-sealed key store columns rows)
reply-sealed key store verb.Count rows = ap reply.Count (length-map rows (sealed_row key store))
reply-sealed key store (verb.Min column) rows = ap (reply.Rows 1) (bodies-sealed key store (column ∷ []) rows)
reply-sealed key store (verb.Max column) rows = ap (reply.Rows 1) (bodies-sealed key store (column ∷ []) rows)
reply-sealed key store verb.Delete rows = ap reply.Count (length-map rows (sealed_row key store))

numbers-sealed : (key : List ℕ) (store : Store Cell) (rows : List (Row Cell)) → kept_numbers (map (sealed_row key store) rows) ≡ numbers_of rows
unfolding kept_numbers numbers_of sealed_row map_kept kept_of
numbers-sealed key store rows = map-map (λ (row : Kept Body). row.number) (sealed_row key store) rows

pub done-sealed : (key : List ℕ) (store : Store Cell) (v : Verb) (t : TableNo) (rows : List (Row Cell)) (h : Held) → changed_by v t (map (sealed_row key store) rows) h ≡ done_about v t (numbers_of rows) h
unfolding changed_by done_about
done-sealed key store (verb.Rows columns order limit) t rows h = refl
done-sealed key store verb.Count t rows h = refl
done-sealed key store (verb.Min column) t rows h = refl
done-sealed key store (verb.Max column) t rows h = refl
done-sealed key store verb.Delete t rows h = ap (λ (numbers : List ℕ). without_numbers t numbers h) (numbers-sealed key store rows)

-- ---- how many rows

length-kept : (b : Bool) {A : Type 0} (x : A) (xs : List A) (n : ℕ) → length xs ≤ n → length (cond b (x ∷ xs) xs) ≤ suc n
length-kept true x xs n few = omega (arith, few)
length-kept false x xs n few = omega (arith, few)

fewer-filtered : {A : Type 0} (p : A → Bool) (xs : List A) → length (filter p xs) ≤ length xs
fewer-filtered p [] = omega arith
fewer-filtered p (x ∷ xs) = length-kept (p x) x (filter p xs) (length xs) (fewer-filtered p xs)

length-front : {A : Type 0} (b : Bool) (x y : A) (ys rest : List A) → length rest ≡ suc (length ys) → length (in_front b x y ys rest) ≡ suc (suc (length ys))
unfolding in_front
length-front true x y ys rest many = refl
length-front false x y ys rest many = ap suc many

length-insert : {A : Type 0} (before : A → A → Bool) (x : A) (ys : List A) → length (insert_ordered before x ys) ≡ suc (length ys)
unfolding insert_ordered
length-insert before x [] = refl
length-insert before x (y ∷ ys) = length-front (before x y) x y ys (insert_ordered before x ys) (length-insert before x ys)

length-ordered : {A : Type 0} (before : A → A → Bool) (xs : List A) → length (ordered before xs) ≡ length xs
unfolding ordered
length-ordered before [] = refl
length-ordered before (x ∷ xs) = length-insert before x (ordered before xs) ∙ ap suc (length-ordered before xs)

fewer-taken : {A : Type 0} (n : ℕ) (xs : List A) → length (take n xs) ≤ length xs
fewer-taken zero xs = omega arith
fewer-taken (suc n) [] = omega arith
fewer-taken (suc n) (x ∷ xs) = omega (arith, fewer-taken n xs)

at_most_one : {A : Type 0} (xs : List A) → length (take 1 xs) ≤ 1
at_most_one [] = omega arith
at_most_one (x ∷ xs) = omega arith

in_order-many : {A : Type 0} (at : ColNo → A → ℕ) (order : Option (ColNo × Bool)) (rows : List A) → length (in_order at order rows) ≡ length rows
unfolding in_order
in_order-many at None rows = refl
in_order-many at (Some order) rows = length-ordered (by_column at order.0 order.1) rows

fewer-first : {A : Type 0} (limit : Option ℕ) (rows : List A) → length (first_of limit rows) ≤ length rows
unfolding first_of
fewer-first None rows = omega arith
fewer-first (Some limit) rows = fewer-taken limit rows

fewer-chosen : {A : Type 0} (at : ColNo → A → ℕ) (v : Verb) (rows : List A) → length (chosen at v rows) ≤ length rows
unfolding chosen
fewer-chosen at (verb.Rows columns order limit) rows = omega (arith, fewer-first limit (in_order at order rows), in_order-many at order rows)
fewer-chosen at verb.Count rows = omega arith
fewer-chosen at (verb.Min column) rows = omega (arith, fewer-taken 1 (ordered (by_column at column false) rows), length-ordered (by_column at column false) rows)
fewer-chosen at (verb.Max column) rows = omega (arith, fewer-taken 1 (ordered (by_column at column true) rows), length-ordered (by_column at column true) rows)
fewer-chosen at verb.Delete rows = omega arith

pub fewer-about : (ask : Ask) (store : Store Cell) → length (rows_about ask store) ≤ length store.rows
unfolding rows_about selected
fewer-about ask store = omega (arith, fewer-chosen cell_at ask.verb (filter (passes cell_at ask.tests) store.rows), fewer-filtered (passes cell_at ask.tests) store.rows)

-- for MIN and MAX there is at most one row
unfoldable pub AloneFor : {A : Type 0} → Verb → List A → Type 0
AloneFor (verb.Rows columns order limit) rows = Unit {0}
AloneFor verb.Count rows = Unit {0}
AloneFor (verb.Min column) rows = length rows ≤ 1
AloneFor (verb.Max column) rows = length rows ≤ 1
AloneFor verb.Delete rows = Unit {0}

alone-chosen : {A : Type 0} (at : ColNo → A → ℕ) (v : Verb) (rows : List A) → AloneFor v (chosen at v rows)
unfolding AloneFor chosen
alone-chosen at (verb.Rows columns order limit) rows = tt
alone-chosen at verb.Count rows = tt
alone-chosen at (verb.Min column) rows = at_most_one (ordered (by_column at column false) rows)
alone-chosen at (verb.Max column) rows = at_most_one (ordered (by_column at column true) rows)
alone-chosen at verb.Delete rows = tt

pub alone-about : (ask : Ask) (store : Store Cell) → AloneFor ask.verb (rows_about ask store)
unfolding rows_about selected
alone-about ask store = alone-chosen cell_at ask.verb (filter (passes cell_at ask.tests) store.rows)

-- ---- the reply is allowed

bodies-many : (key : List ℕ) (columns : List ColNo) (rows : List (Row Cell)) → length (flat_map (bodies_of key columns) rows) ≡ length rows * length columns
unfolding bodies_of
bodies-many key columns [] = omega arith
bodies-many key columns (row ∷ rows) =
    length-append (bodies_of key columns row) (flat_map (bodies_of key columns) rows)
    ∙ ap₂ (λ (a b : ℕ). a + b) (length-map columns (λ (column : ColNo). get_or (map (sealed key) row.cells) column.0 no_body)) (bodies-many key columns rows)
    ∙ add_comm (length columns) (length rows * length columns) ∙ sym (suc-mul (length rows) (length columns))

-- the columns of a SELECT are 1 to 8
unfoldable pub IsNarrow : Verb → Type 0
IsNarrow (verb.Rows columns order limit) = (0 < length columns) × (length columns ≤ 8)
IsNarrow verb.Count = Unit {0}
IsNarrow (verb.Min column) = Unit {0}
IsNarrow (verb.Max column) = Unit {0}
IsNarrow verb.Delete = Unit {0}

width-right : (n : ℕ) → 0 < n → n ≤ 8 → (n == 0) || nat_lt 8 n ≡ false
width-right zero some few = absurd (omega (arith, some))
width-right (suc n) some few = or_from (suc n == 0) (nat_lt 8 (suc n)) (ne_eqb (suc n) 0 (λ e. omega (arith, e))) (le-ltb 8 (suc n) few)

rows-spelled : (rows width : ℕ) → 0 < width → width ≤ 8 → rows ≤ 2 ^ 20 → is_rows width (rows * width) ≡ true
unfolding is_rows
rows-spelled rows width some few low =
    let bound : rows * width ≤ rows * 8 = mul-le-mul_left rows few in
    ap₂ (λ (a b : Bool). not a && not (not b) && nat_lt (rows * width) (2 ^ 32)) (width-right width some few) (eq-eqb (rows * width % width) 0 (mul-mod_left rows width))
    ∙ lt-ltb (rows * width) (2 ^ 32) (omega (arith, bound, low))

one-spelled : (n : ℕ) → n ≤ 1 → is_rows 1 n ≡ true
unfolding is_rows
one-spelled zero few = refl
one-spelled (suc zero) few = refl
one-spelled (suc (suc n)) few = absurd (omega (arith, few))

one-allowed : (key : List ℕ) (column : ColNo) (rows : List (Row Cell)) → length rows ≤ 1 → (let n = length (flat_map (bodies_of key (column ∷ [])) rows) in (eqb 1 1 && leb n 1) && is_rows 1 n ≡ true)
one-allowed key column rows one =
    let many : length (flat_map (bodies_of key (column ∷ [])) rows) ≡ length rows = bodies-many key (column ∷ []) rows ∙ omega arith in
    let few : length (flat_map (bodies_of key (column ∷ [])) rows) ≤ 1 = omega (arith, many, one) in
    ap₂ (λ (a b : Bool). a && b) (le-leb (length (flat_map (bodies_of key (column ∷ [])) rows)) 1 few) (one-spelled (length (flat_map (bodies_of key (column ∷ [])) rows)) few)

pub reply-allowed : (key : List ℕ) (v : Verb) (rows : List (Row Cell)) → IsNarrow v → AloneFor v rows → length rows ≤ 2 ^ 20 → answers_with v (reply_with key v rows) && is_spelled (reply_with key v rows) ≡ true
unfolding IsNarrow AloneFor answers_with reply_with is_spelled fits_rows fits_count
reply-allowed key (verb.Rows columns order limit) rows narrow alone low =
    ap₂ (λ (a b : Bool). a && b) (eq-eqb (length columns) (length columns) refl)
    (ap (is_rows (length columns)) (bodies-many key columns rows) ∙ rows-spelled (length rows) (length columns) narrow.0 narrow.1 low)
reply-allowed key verb.Count rows narrow alone low = refl
reply-allowed key (verb.Min column) rows narrow alone low = one-allowed key column rows alone
reply-allowed key (verb.Max column) rows narrow alone low = one-allowed key column rows alone
reply-allowed key verb.Delete rows narrow alone low = refl

-- ---- what it opens to

abbrev pub Wide : ℕ → Row Cell → Type 0
Wide width row = length row.cells ≡ width

pub wide-rows : (width : ℕ) (rows : List (Row Cell)) → AllWide width rows → All (Wide width) rows
unfolding AllWide
wide-rows width [] all = All-nil (Wide width)
wide-rows width (row ∷ rows) all = All-cons (Wide width) row rows all.0 (wide-rows width rows all.1)

All-first : {A : Type 0} (P : A → Type 0) (limit : Option ℕ) (rows : List A) → All P rows → All P (first_of limit rows)
unfolding first_of
All-first P None rows all = all
All-first P (Some limit) rows all = All-take P limit rows all

All-in_order : {A : Type 0} (P : A → Type 0) (at : ColNo → A → ℕ) (order : Option (ColNo × Bool)) (rows : List A) → All P rows → All P (in_order at order rows)
unfolding in_order
All-in_order P at None rows all = all
All-in_order P at (Some order) rows all = All-ordered (by_column at order.0 order.1) P rows all

All-chosen : {A : Type 0} (P : A → Type 0) (at : ColNo → A → ℕ) (v : Verb) (rows : List A) → All P rows → All P (chosen at v rows)
unfolding chosen
All-chosen P at (verb.Rows columns order limit) rows all = All-first P limit (in_order at order rows) (All-in_order P at order rows all)
All-chosen P at verb.Count rows all = all
All-chosen P at (verb.Min column) rows all = All-take P 1 (ordered (by_column at column false) rows) (All-ordered (by_column at column false) P rows all)
All-chosen P at (verb.Max column) rows all = All-take P 1 (ordered (by_column at column true) rows) (All-ordered (by_column at column true) P rows all)
All-chosen P at verb.Delete rows all = all

pub All-about : (P : Row Cell → Type 0) (ask : Ask) (store : Store Cell) → All P store.rows → All P (rows_about ask store)
unfolding rows_about selected
All-about P ask store all = All-chosen P cell_at ask.verb (filter (passes cell_at ask.tests) store.rows) (All-filter (passes cell_at ask.tests) P store.rows all)

opens-cell : (key : List ℕ) (column : ColNo) (row : Row Cell) → column.0 < length row.cells → unseal_of key (get_or (map (sealed key) row.cells) column.0 no_body) ≡ cell_at column row
unfolding cell_at cell_value
opens-cell key column row lt =
    let none : Cell = record { nonce = 0; value = 0 } in
    ap (unseal_of key) (get_or-map (sealed key) row.cells column.0 none no_body lt) ∙ unseals key (get_or row.cells column.0 none) ∙ sym (get_or-map value_of row.cells column.0 none 0 lt)

opens-row : (key : List ℕ) (width : ℕ) (columns : List ColNo) (row : Row Cell) → Each (λ (column : ColNo). column.0 < width) columns → Wide width row → map (unseal_of key) (bodies_of key columns row) ≡ values_at cell_at columns row
unfolding bodies_of values_at Each
opens-row key width [] row there wide = refl
opens-row key width (column ∷ columns) row there wide =
    ap₂ (λ (x : ℕ) (xs : List ℕ). x ∷ xs) (opens-cell key column row (subst (λ (n : ℕ). column.0 < n) (sym wide) there.0)) (opens-row key width columns row there.1 wide)

map-append : {A B : Type 0} (f : A → B) (xs ys : List A) → map f (xs ++ ys) ≡ map f xs ++ map f ys
map-append f [] ys = refl
map-append f (x ∷ xs) ys = ap (λ (rest : List _). f x ∷ rest) (map-append f xs ys)

opens-rows : (key : List ℕ) (width : ℕ) (columns : List ColNo) (rows : List (Row Cell)) → Each (λ (column : ColNo). column.0 < width) columns → All (Wide width) rows → map (unseal_of key) (flat_map (bodies_of key columns) rows) ≡ flat_map (values_at cell_at columns) rows
opens-rows key width columns [] there wide = refl
opens-rows key width columns (row ∷ rows) there wide =
    map-append (unseal_of key) (bodies_of key columns row) (flat_map (bodies_of key columns) rows)
    ∙ ap₂ (λ (xs ys : List ℕ). xs ++ ys) (opens-row key width columns row there (All-head (Wide width) row rows wide)) (opens-rows key width columns rows there (All-tail (Wide width) row rows wide))

first-about : (column : ColNo) (rows : List (Row Cell)) → first_of_values (flat_map (values_at cell_at (column ∷ [])) rows) ≡ first_value cell_at column rows
unfolding first_of_values first_value values_at
first-about column [] = refl
first-about column (row ∷ rows) = refl

opens-first : (key : List ℕ) (width : ℕ) (column : ColNo) (rows : List (Row Cell)) → column.0 < width → All (Wide width) rows → first_of_values (map (unseal_of key) (flat_map (bodies_of key (column ∷ [])) rows)) ≡ first_value cell_at column rows
unfolding Each
opens-first key width column rows there wide = ap first_of_values (opens-rows key width (column ∷ []) rows (there, tt) wide) ∙ first-about column rows

-- the columns that a verb gives are there
unfoldable pub GivesWithin : ℕ → Verb → Type 0
GivesWithin width (verb.Rows columns order limit) = Each (λ (column : ColNo). column.0 < width) columns
GivesWithin width verb.Count = Unit {0}
GivesWithin width (verb.Min column) = column.0 < width
GivesWithin width (verb.Max column) = column.0 < width
GivesWithin width verb.Delete = Unit {0}

pub reply-opens : (key : List ℕ) (width : ℕ) (v : Verb) (rows : List (Row Cell)) → GivesWithin width v → All (Wide width) rows → answer_in key v (reply_with key v rows) ≡ Some (answer_about cell_at v rows)
unfolding GivesWithin answer_in rows_answer count_answer reply_with answer_about
reply-opens key width (verb.Rows columns order limit) rows there wide = ap (λ (xs : List ℕ). Some (answer.Rows (length columns) xs)) (opens-rows key width columns rows there wide)
reply-opens key width verb.Count rows there wide = refl
reply-opens key width (verb.Min column) rows there wide = ap (λ (x : Option ℕ). Some (answer.Min x)) (opens-first key width column rows there wide)
reply-opens key width (verb.Max column) rows there wide = ap (λ (x : Option ℕ). Some (answer.Max x)) (opens-first key width column rows there wide)
reply-opens key width verb.Delete rows there wide = refl
