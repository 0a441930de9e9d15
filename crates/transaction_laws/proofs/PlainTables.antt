-- A world in clear: what a statement answers on it and leaves of it is what it does on plain tables.
use Rattle.std.proofs.Common.{◌≡◌, ℕ, zero, suc, ◌<◌, Bool, true, false, ◌==◌, eqb, List, [], ◌∷◌, ◌++◌, map, length, get_or, set, refl, ap, ap₂, ◌∙◌, sym, subst, inl, inr, arith}
use Rattle.std.proofs.lemmas.Bool.{cases_Bool, ne_eqb, eqb-true}
use Rattle.std.proofs.lemmas.List.{get_or-map, set-get_or, map-append}
use Rattle.mope_base.specs.declared.numbers.TableNo.{TableNo}
use Rattle.mope_base.specs.declared.numbers.ColNo.{ColNo}
use Rattle.tree_model.specs.Places.{IsBelowAll, IsIncreasing}
use Rattle.tree_model.specs.Items.{change_at}
use Rattle.table_model.specs.Stores.{Row, Store, empty_store}
use Rattle.table_model.specs.Changes.{here_or, without, rows_without, insert_cells, delete_number, delete_numbers}
use Rattle.table_model.specs.Soundness.{numbers_of, cell_value, Sound}
use Rattle.table_model.specs.Operations.{op_on, ops_on}
use Rattle.table_model.proofs.Lists.{map-map}
use Rattle.table_model.proofs.Deleted.{rising-front, delete_takes_rows}
use Rattle.table_model.proofs.Sound.{delete-sound}
use Rattle.value_cipher.specs.Cipher.{Cell, value_of}
use Rattle.workload.specs.declared.plain.PlainRow.{PlainRow}
use Rattle.workload.specs.declared.plain.PlainTable.{PlainTable}
use Rattle.workload.specs.declared.plain.PlainDb.{PlainDb}
use Rattle.workload.specs.declared.script.Ask.{Ask}
use Rattle.workload.specs.declared.script.Verb.{Verb}
use Rattle.workload.specs.declared.script.Verb.TheVariants as verb
use Rattle.workload.specs.Selection.{selected, answer_about, kept_unless, without_row, without_rows}
use Rattle.workload.specs.PlainDatabase.{empty_table, table_of, with_table, with_row, row_number, table_without}
use Rattle.workload.specs.Outcome.{value_at, left_by}
use Rattle.workload.proofs.MapLemmas.{selected-map, answer-map, without_rows-map}
use Rattle.proxy.specs.Client.{Setting, cells_from}
use Rattle.transaction_laws.specs.Constants.{store_at}
use Rattle.transaction_laws.specs.Queries.{cell_at, rows_about, rows_out, ops_about}
use Rattle.transaction_laws.specs.Transactions.{plain_row, plain_table, plain_database}

-- ---- tables

plain-empty : (let t : PlainTable = plain_table (empty_store Cell 0) in t) ≡ empty_table
unfolding plain_table empty_store empty_table
plain-empty = refl

pub plain-at : (stores : List (Store Cell)) (t : TableNo) → t.0 < length stores → table_of (plain_database stores) t ≡ plain_table (store_at stores t)
unfolding table_of plain_database store_at
plain-at stores t lt = get_or-map plain_table stores t.0 (empty_store Cell 0) empty_table lt

-- a changed table
plain-changed : (f : Store Cell → Store Cell) (stores : List (Store Cell)) (i : ℕ) (d : Store Cell) (u : PlainTable) → i < length stores → plain_table (f (get_or stores i d)) ≡ u → map plain_table (change_at f stores i) ≡ set (map plain_table stores) i u
unfolding change_at
plain-changed f [] i d u lt is = absurd (omega (arith, lt))
plain-changed f (store ∷ stores) zero d u lt is = ap (λ (x : PlainTable). x ∷ map plain_table stores) is
plain-changed f (store ∷ stores) (suc i) d u lt is = ap (λ (xs : List PlainTable). plain_table store ∷ xs) (plain-changed f stores i d u (omega (arith, lt)) is)

pub plain-with : (f : Store Cell → Store Cell) (stores : List (Store Cell)) (t : TableNo) (u : PlainTable) → t.0 < length stores → plain_table (f (store_at stores t)) ≡ u → plain_database (change_at f stores t.0) ≡ with_table (plain_database stores) t u
unfolding plain_database with_table store_at
plain-with f stores t u lt is = ap (λ (tables : List PlainTable). let db : PlainDb = record { tables = tables } in db) (plain-changed f stores t.0 (empty_store Cell 0) u lt is)

pub plain-same : (db : PlainDb) (t : TableNo) → with_table db t (table_of db t) ≡ db
unfolding with_table table_of
plain-same db t = ap (λ (tables : List PlainTable). let d : PlainDb = record { tables = tables } in d) (set-get_or db.tables t.0 empty_table)

-- ---- an INSERT

values-of_cells : (s : Setting) (count : ℕ) (xs : List ℕ) → map value_of (cells_from s count xs) ≡ xs
unfolding cells_from value_of
values-of_cells s count [] = refl
values-of_cells s count (x ∷ xs) = ap (λ (rest : List ℕ). x ∷ rest) (values-of_cells s (suc count) xs)

plain-last : (store : Store Cell) (cells : List Cell) (xs : List ℕ) → map value_of cells ≡ xs
    → map plain_row (store.rows ++ (record { number = store.next; cells = cells }) ∷ []) ≡ map plain_row store.rows ++ record { number = store.next; values = xs } ∷ []
unfolding plain_row
plain-last store cells xs values =
    map-append plain_row store.rows ((record { number = store.next; cells = cells }) ∷ []) ∙ ap (λ (vs : List ℕ). map plain_row store.rows ++ record { number = store.next; values = vs } ∷ []) values

pub plain-inserted : (s : Setting) (same_time : Bool) (store : Store Cell) (count : ℕ) (xs : List ℕ) → plain_table (insert_cells same_time value_of (cells_from s count xs) store) ≡ with_row (plain_table store) xs
unfolding plain_table insert_cells with_row
plain-inserted s same_time store count xs =
    ap (λ (rows : List PlainRow). let t : PlainTable = record { rows = rows; next = suc store.next } in t) (plain-last store (cells_from s count xs) xs (values-of_cells s count xs))

-- ---- a selection

keeps : (column : ColNo) (row : Row Cell) → value_at column (plain_row row) ≡ cell_at column row
unfolding value_at plain_row cell_at cell_value
keeps column row = refl

pub plain-about : (ask : Ask) (store : Store Cell) → selected value_at ask (plain_table store).rows ≡ map plain_row (rows_about ask store)
unfolding plain_table rows_about
plain-about ask store = selected-map plain_row cell_at value_at keeps ask store.rows

pub plain-answer : (v : Verb) (rows : List (Row Cell)) → answer_about value_at v (map plain_row rows) ≡ answer_about cell_at v rows
plain-answer v rows = answer-map plain_row cell_at value_at keeps v rows

plain-numbers : (rows : List (Row Cell)) → map row_number (map plain_row rows) ≡ numbers_of rows
unfolding numbers_of plain_row
plain-numbers rows = map-map row_number plain_row rows

-- ---- a DELETE

abbrev number_in : Row Cell → ℕ
number_in row = row.number

stays : (b : Bool) (row : Row Cell) (rows : List (Row Cell)) → b ≡ false → kept_unless b row rows ≡ row ∷ rows
unfolding kept_unless
stays b row rows is = ap (λ (x : Bool). kept_unless x row rows) is

goes : (b : Bool) (row : Row Cell) (rows : List (Row Cell)) → b ≡ true → kept_unless b row rows ≡ rows
unfolding kept_unless
goes b row rows is = ap (λ (x : Bool). kept_unless x row rows) is

without-above : (n : ℕ) (rows : List (Row Cell)) → IsBelowAll n (numbers_of rows) → without_row number_in n rows ≡ rows
unfolding without_row IsBelowAll numbers_of
without-above n [] above = refl
without-above n (row ∷ rows) above = stays (eqb row.number n) row (without_row number_in n rows) (ne_eqb row.number n (λ e. omega (arith, above.0, e))) ∙ ap (λ (rest : List (Row Cell)). row ∷ rest) (without-above n rows above.1)

one-out : (n : ℕ) (rows : List (Row Cell)) → IsIncreasing (numbers_of rows) → rows_without n rows ≡ without_row number_in n rows
unfolding rows_without without without_row IsIncreasing numbers_of here_or
one-out n [] up = refl
one-out n (row ∷ rows) up =
    elim (cases_Bool (row.number == n)) [
      | inl is ↦
          let same : row.number ≡ n = eqb-true row.number n is in
          ap (λ (b : Bool). here_or b rows (row ∷ rows_without n rows)) is ∙ sym (goes (eqb row.number n) row (without_row number_in n rows) is ∙ without-above n rows (subst (λ (m : ℕ). IsBelowAll m (numbers_of rows)) same up.0))
      | inr is ↦
          ap (λ (b : Bool). here_or b rows (row ∷ rows_without n rows)) is ∙ ap (λ (rest : List (Row Cell)). row ∷ rest) (one-out n rows up.1) ∙ sym (stays (eqb row.number n) row (without_row number_in n rows) is)
    ]

rows-out : (same_time : Bool) (limit : ℕ) (store : Store Cell) (numbers : List ℕ) → Sound Cell value_of same_time limit store → (delete_numbers same_time value_of numbers store).rows ≡ without_rows number_in numbers store.rows
unfolding delete_numbers without_rows delete_number
rows-out same_time limit store [] sound = refl
rows-out same_time limit store (n ∷ numbers) sound =
    rows-out same_time limit (delete_number same_time value_of n store) numbers (delete-sound value_of same_time limit store sound n)
    ∙ ap (without_rows number_in numbers) (one-out n store.rows (rising-front (numbers_of store.rows) (store.next ∷ []) sound.numbered))

numbers-kept : (row : Row Cell) → row_number (plain_row row) ≡ number_in row
unfolding plain_row
numbers-kept row = refl

pub plain-deleted : (same_time : Bool) (limit : ℕ) (store : Store Cell) (numbers : List ℕ) → Sound Cell value_of same_time limit store → plain_table (delete_numbers same_time value_of numbers store) ≡ table_without (plain_table store) numbers
unfolding plain_table table_without
plain-deleted same_time limit store numbers sound =
    ap₂ (λ (rows : List PlainRow) (next : ℕ). let t : PlainTable = record { rows = rows; next = next } in t)
    (ap (map plain_row) (rows-out same_time limit store numbers sound) ∙ sym (without_rows-map plain_row number_in row_number numbers-kept numbers store.rows))
    (delete_takes_rows value_of same_time limit numbers store sound).next

nothing-out : (table : PlainTable) → table_without table [] ≡ table
unfolding table_without without_rows
nothing-out table = refl

plain-rows_out : (same_time : Bool) (limit : ℕ) (stores : List (Store Cell)) (t : TableNo) (numbers : List ℕ) → Sound Cell value_of same_time limit (store_at stores t) → t.0 < length stores
    → with_table (plain_database stores) t (table_without (table_of (plain_database stores) t) numbers) ≡ plain_database (ops_on same_time value_of (rows_out t numbers) stores)
unfolding rows_out ops_on op_on
plain-rows_out same_time limit stores t [] sound lt = ap (λ (u : PlainTable). with_table (plain_database stores) t u) (nothing-out (table_of (plain_database stores) t)) ∙ plain-same (plain_database stores) t
plain-rows_out same_time limit stores t (n ∷ numbers) sound lt =
    sym (plain-with (delete_numbers same_time value_of (n ∷ numbers)) stores t (table_without (table_of (plain_database stores) t) (n ∷ numbers)) lt
    (plain-deleted same_time limit (store_at stores t) (n ∷ numbers) sound ∙ ap (λ (u : PlainTable). table_without u (n ∷ numbers)) (sym (plain-at stores t lt))))

-- what a statement that asks leaves
pub plain-left : (same_time : Bool) (limit : ℕ) (stores : List (Store Cell)) (v : Verb) (t : TableNo) (rows : List (Row Cell)) → Sound Cell value_of same_time limit (store_at stores t) → t.0 < length stores
    → left_by v t (map plain_row rows) (plain_database stores) ≡ plain_database (ops_on same_time value_of (ops_about v t (numbers_of rows)) stores)
unfolding left_by ops_about ops_on
plain-left same_time limit stores (verb.Rows columns order limited) t rows sound lt = refl
plain-left same_time limit stores verb.Count t rows sound lt = refl
plain-left same_time limit stores (verb.Min column) t rows sound lt = refl
plain-left same_time limit stores (verb.Max column) t rows sound lt = refl
plain-left same_time limit stores verb.Delete t rows sound lt =
    ap (λ (numbers : List ℕ). with_table (plain_database stores) t (table_without (table_of (plain_database stores) t) numbers)) (plain-numbers rows) ∙ plain-rows_out same_time limit stores t (numbers_of rows) sound lt
