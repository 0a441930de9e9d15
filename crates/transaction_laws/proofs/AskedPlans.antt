-- A statement as it is sent, read by the connection with the codes of the places that were found: the statement with codes in its
-- constants' stead; and that no check refuses it.
use Rattle.std.proofs.Common.{◌≡◌, ℕ, Bool, true, false, ◌&&◌, ◌==◌, List, [], ◌∷◌, ◌++◌, map, Option, Some, None, refl, ap, ap₂, ◌∙◌, sym}
use Rattle.std.proofs.lemmas.Bool.{eq-eqb}
use Rattle.mope_base.specs.declared.body.Body.{Body}
use Rattle.mope_base.specs.declared.numbers.TableNo.{TableNo}
use Rattle.mope_base.specs.declared.numbers.ColNo.{ColNo}
use Rattle.sql_text.specs.declared.Test.{Test}
use Rattle.sql_text.specs.declared.Test.TheVariants as test
use Rattle.tree_model.specs.Places.{place}
use Rattle.tree_model.specs.Items.{values}
use Rattle.tree_model.specs.Columns.{Column, items_of, map_column}
use Rattle.path_code.specs.Laws.{code_in}
use Rattle.table_model.specs.Stores.{Store, Shelf, map_shelf, shelf_of}
use Rattle.table_model.specs.Soundness.{column_at}
use Rattle.table_model.proofs.Lists.{map-same}
use Rattle.table_model.proofs.SoundMaps.{column_at-map}
use Rattle.table_model.proofs.StoreMaps.{values-map_column}
use Rattle.value_cipher.specs.Cipher.{Cell, value_of, sealed, unseal_of}
use Rattle.value_cipher.proofs.CipherLemmas.{unseal_of-seal_of}
use Rattle.workload.specs.declared.script.Ask.{Ask}
use Rattle.workload.specs.declared.script.Verb.{Verb}
use Rattle.workload.specs.declared.script.Verb.TheVariants as verb
use Rattle.proxy.specs.Tasks.{constants_in, constants_with, constants_all, verb_byte, target_byte, order_in, direction_byte, order_byte, order_column_byte, limit_in, column_bytes, test_byte, cond_bytes, asked_of}
use Rattle.sql_plan.specs.Bounds.{test_by}
use Rattle.sql_plan.specs.Readings.{place_code, test_number, first_constant, second_constant, test_of_codes, condition_of_codes, ask_of_codes}
use Rattle.server_conn.specs.Connections.{Mark, Held}
use Rattle.server_conn.specs.Checks.{own, are_of, constants_of, once_or_twice}
use Rattle.server_conn.specs.Serving.{code_at_mark, second_of, without_second, tests_of, order_by, verb_by, ask_by}
use Rattle.transaction_laws.specs.Constants.{place_of, marks_for, store_at, Shows}
use Rattle.transaction_laws.proofs.Shown.{own-shown}

-- ---- the verb

columns-back : (columns : List ColNo) → map (λ (column : ℕ). let c : ColNo = record { 0 = column } in c) (map (λ (column : ColNo). column.0) columns) ≡ columns
columns-back [] = refl
columns-back (column ∷ columns) = ap (λ (rest : List ColNo). column ∷ rest) (columns-back columns)

direction-back : (column : ColNo) (down : Bool) → order_by (direction_byte down) column.0 ≡ Some (column, down)
unfolding order_by direction_byte
direction-back column false = refl
direction-back column true = refl

order-back : (order : Option (ColNo × Bool)) → order_by (order_byte order) (order_column_byte order) ≡ order
unfolding order_by order_byte order_column_byte
order-back None = refl
order-back (Some order) = direction-back order.0 order.1

-- the connection reads the verb that was sent
verb-back : (t : TableNo) (v : Verb) (tests : List (ColNo × Test)) → verb_by (verb_byte v) (asked_of (record { table = t; verb = v; tests = tests })) ≡ v
unfolding verb_by verb_byte asked_of target_byte order_in limit_in column_bytes
verb-back t (verb.Rows columns order limit) tests = ap₂ (λ (cs : List ColNo) (o : Option (ColNo × Bool)). verb.Rows cs o limit) (columns-back columns) (order-back order)
verb-back t verb.Count tests = refl
verb-back t (verb.Min column) tests = refl
verb-back t (verb.Max column) tests = refl
verb-back t verb.Delete tests = refl

pub verb-sent : (ask : Ask) → verb_by (asked_of ask).verb (asked_of ask) ≡ ask.verb
unfolding asked_of
verb-sent ask = verb-back ask.table ask.verb ask.tests

-- ---- the conditions

pub unseals : (key : List ℕ) (cell : Cell) → unseal_of key (sealed key cell) ≡ value_of cell
unfolding sealed
unseals key cell = unseal_of-seal_of key cell.nonce (value_of cell)

same_values : (key : List ℕ) (c : Column Cell) → values (unseal_of key) (items_of (map_column (sealed key) c)) ≡ values value_of (items_of c)
unfolding values
same_values key c = values-map_column (sealed key) (unseal_of key) c ∙ map-same (λ item. unseal_of key (sealed key item.body)) (λ item. value_of item.body) (items_of c) (λ item. unseals key item.body)

sealed-column : (key : List ℕ) (store : Store Cell) (s : Shelf Body) → s ≡ map_shelf (sealed key) (shelf_of value_of store) → (column : ℕ) → column_at s.columns column ≡ map_column (sealed key) (column_at store.columns column)
unfolding map_shelf shelf_of
sealed-column key store s same column = ap (λ (x : Shelf Body). column_at x.columns column) same ∙ column_at-map (sealed key) store.columns column

-- the code of a place that was found is the code of the constant's place by value
mark-code : (key : List ℕ) (t : ℕ) (store : Store Cell) (s : Shelf Body) → s ≡ map_shelf (sealed key) (shelf_of value_of store) → (column : ColNo) (x : ℕ)
    → code_at_mark s (record { table = t; column = column.0; place = place_of store (column, x) }) ≡ place_code (unseal_of key) s column x
unfolding code_at_mark place_code place_of
mark-code key t store s same column x =
    let values-same : values (unseal_of key) (items_of (column_at s.columns column.0)) ≡ values value_of (items_of (column_at store.columns column.0)) =
    ap (λ (c : Column Body). values (unseal_of key) (items_of c)) (sealed-column key store s same column.0) ∙ same_values key (column_at store.columns column.0) in
    ap (λ (xs : List ℕ). code_in (column_at s.columns column.0).tree (place xs x)) (sym values-same)

test-back : (key : List ℕ) (t : TableNo) (store : Store Cell) (s : Shelf Body) → s ≡ map_shelf (sealed key) (shelf_of value_of store) → (column : ColNo) (x : Test) (conditions : List (ColNo × Test))
    → tests_of (map cond_bytes conditions) (map (code_at_mark s) (marks_for t (constants_all conditions) store)) ≡ map (condition_of_codes (unseal_of key) s) conditions
    → tests_of (cond_bytes (column, x) ∷ map cond_bytes conditions) (map (code_at_mark s) (marks_for t (constants_with (column, x) ++ constants_all conditions) store)) ≡ condition_of_codes (unseal_of key) s (column, x) ∷ map (condition_of_codes (unseal_of key) s) conditions
unfolding tests_of cond_bytes test_byte constants_with constants_in marks_for condition_of_codes test_of_codes test_by test_number first_constant second_constant second_of without_second
test-back key t store s same column (test.Eq c) conditions rest = ap₂ (λ (code : ℕ) (more : List (ColNo × Test)). (column, test.Eq code) ∷ more) (mark-code key t.0 store s same column c) rest
test-back key t store s same column (test.Lt c) conditions rest = ap₂ (λ (code : ℕ) (more : List (ColNo × Test)). (column, test.Lt code) ∷ more) (mark-code key t.0 store s same column c) rest
test-back key t store s same column (test.Le c) conditions rest = ap₂ (λ (code : ℕ) (more : List (ColNo × Test)). (column, test.Le code) ∷ more) (mark-code key t.0 store s same column c) rest
test-back key t store s same column (test.Gt c) conditions rest = ap₂ (λ (code : ℕ) (more : List (ColNo × Test)). (column, test.Gt code) ∷ more) (mark-code key t.0 store s same column c) rest
test-back key t store s same column (test.Ge c) conditions rest = ap₂ (λ (code : ℕ) (more : List (ColNo × Test)). (column, test.Ge code) ∷ more) (mark-code key t.0 store s same column c) rest
test-back key t store s same column (test.Between low high) conditions rest =
    ap₂ (λ (a b : ℕ). (column, test.Between a b) ∷ tests_of (map cond_bytes conditions) (map (code_at_mark s) (marks_for t (constants_all conditions) store))) (mark-code key t.0 store s same column low) (mark-code key t.0 store s same column high)
    ∙ ap (λ (more : List (ColNo × Test)). (column, test.Between (place_code (unseal_of key) s column low) (place_code (unseal_of key) s column high)) ∷ more) rest

pub tests-back : (key : List ℕ) (t : TableNo) (store : Store Cell) (s : Shelf Body) → s ≡ map_shelf (sealed key) (shelf_of value_of store) → (conditions : List (ColNo × Test))
    → tests_of (map cond_bytes conditions) (map (code_at_mark s) (marks_for t (constants_all conditions) store)) ≡ map (condition_of_codes (unseal_of key) s) conditions
unfolding constants_all tests_of marks_for
tests-back key t store s same [] = refl
tests-back key t store s same (condition ∷ conditions) = test-back key t store s same condition.0 condition.1 conditions (tests-back key t store s same conditions)

asks-alike : (t : TableNo) (v w : Verb) (xs ys : List (ColNo × Test)) → v ≡ w → xs ≡ ys → (let one : Ask = record { table = t; verb = v; tests = xs } in one) ≡ record { table = t; verb = w; tests = ys }
asks-alike t v w xs ys verbs tests = ap₂ (λ (u : Verb) (zs : List (ColNo × Test)). let one : Ask = record { table = t; verb = u; tests = zs } in one) verbs tests

conds-sent : (key : List ℕ) (ask : Ask) (s : Shelf Body) (store : Store Cell) → s ≡ map_shelf (sealed key) (shelf_of value_of store) → tests_of (asked_of ask).conds (map (code_at_mark s) (marks_for ask.table (constants_all ask.tests) store)) ≡ map (condition_of_codes (unseal_of key) s) ask.tests
unfolding asked_of
conds-sent key ask s store same = tests-back key ask.table store s same ask.tests

-- the connection asks by codes for what was asked by values
pub ask-sent : (key : List ℕ) (stores : List (Store Cell)) (ask : Ask) (h : Held) → Shows key stores h → h.marks ≡ marks_for ask.table (constants_all ask.tests) (store_at stores ask.table)
    → ask_by (asked_of ask) h ≡ ask_of_codes (unseal_of key) (own h ask.table) ask
unfolding ask_by ask_of_codes asked_of
ask-sent key stores ask h shows marks =
    let s = own h ask.table in
    let store = store_at stores ask.table in
    let same : s ≡ map_shelf (sealed key) (shelf_of value_of store) = own-shown key stores h ask.table shows in
    let tests : tests_of (asked_of ask).conds (map (code_at_mark s) h.marks) ≡ map (condition_of_codes (unseal_of key) s) ask.tests =
    ap (λ (ms : List Mark). tests_of (asked_of ask).conds (map (code_at_mark s) ms)) marks ∙ conds-sent key ask s store same in
    asks-alike ask.table (verb_by (asked_of ask).verb (asked_of ask)) ask.verb (tests_of (asked_of ask).conds (map (code_at_mark s) h.marks)) (map (condition_of_codes (unseal_of key) s) ask.tests) (verb-sent ask) tests

-- ---- the checks

mark-passes : (t : TableNo) (column : ColNo) {rest : Bool} → rest ≡ true → (t.0 == t.0) && (column.0 == column.0) && rest ≡ true
mark-passes t column {rest} passes = ap₂ (λ (a b : Bool). a && b && rest) (eq-eqb t.0 t.0 refl) (eq-eqb column.0 column.0 refl) ∙ passes

test-placed : (t : TableNo) (store : Store Cell) (column : ColNo) (x : Test) (conditions : List (ColNo × Test))
    → are_of t.0 (constants_of (map cond_bytes conditions)) (marks_for t (constants_all conditions) store) ≡ true
    → are_of t.0 (constants_of (cond_bytes (column, x) ∷ map cond_bytes conditions)) (marks_for t (constants_with (column, x) ++ constants_all conditions) store) ≡ true
unfolding are_of constants_of once_or_twice cond_bytes test_byte constants_with constants_in marks_for
test-placed t store column (test.Eq c) conditions rest = mark-passes t column rest
test-placed t store column (test.Lt c) conditions rest = mark-passes t column rest
test-placed t store column (test.Le c) conditions rest = mark-passes t column rest
test-placed t store column (test.Gt c) conditions rest = mark-passes t column rest
test-placed t store column (test.Ge c) conditions rest = mark-passes t column rest
test-placed t store column (test.Between low high) conditions rest = mark-passes t column (mark-passes t column rest)

-- the places found are those of the conditions' columns, in order
pub tests-placed : (t : TableNo) (store : Store Cell) (conditions : List (ColNo × Test)) → are_of t.0 (constants_of (map cond_bytes conditions)) (marks_for t (constants_all conditions) store) ≡ true
unfolding constants_all are_of constants_of marks_for
tests-placed t store [] = refl
tests-placed t store (condition ∷ conditions) = test-placed t store condition.0 condition.1 conditions (tests-placed t store conditions)
