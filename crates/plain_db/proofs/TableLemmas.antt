-- One table of a database exchanged, and rows taken out of a table whose rows are numbered in order.
use Rattle.std.proofs.Common.{◌≡◌, refl, sym, ◌∙◌, ap, ℕ, suc, ◌^◌, ◌<◌, ◌≤◌, Bool, true, false, not, leb, cond, List, [], ◌∷◌, map, filter, length, arith}
use Rattle.std.proofs.lemmas.Bool.{or_parts, leb-false, eq-eqb, ne_eqb}
use Rattle.std.proofs.lemmas.List.{set-set, set_past, length-set}
use Rattle.mope_base.specs.declared.numbers.TableNo.{TableNo}
use Rattle.workload.specs.declared.plain.PlainRow.{PlainRow}
use Rattle.workload.specs.declared.plain.PlainTable.{PlainTable}
use Rattle.workload.specs.declared.plain.PlainDb.{PlainDb}
use Rattle.workload.specs.Selection.{kept_unless, without_row, without_rows}
use Rattle.workload.specs.PlainDatabase.{table_of, with_table, is_full, row_number}
use Rattle.plain_db.specs.Answerable.{IncreaseBelow}
use Rattle.plain_db.proofs.TableOutcomes.{with_table-same}
use Rattle.mope_base.specs.Lists.{Each}

pub with_table-twice : (db : PlainDb) (t : TableNo) (first second : PlainTable) → with_table (with_table db t first) t second ≡ with_table db t second
unfolding with_table
with_table-twice db t first second =
    ap (λ tables. let d : PlainDb = record { tables = tables } in d) (set-set db.tables t.0 first second)

pub with_table-back : (db : PlainDb) (t : TableNo) (first : PlainTable) → with_table (with_table db t first) t (table_of db t) ≡ db
with_table-back db t first = with_table-twice db t first (table_of db t) ∙ with_table-same db t

pub with_table-past : (db : PlainDb) (t : TableNo) (table : PlainTable) → length db.tables ≤ t.0 → with_table db t table ≡ db
unfolding with_table
with_table-past db t table past = ap (λ tables. let d : PlainDb = record { tables = tables } in d) (set_past db.tables t.0 table past)

pub length-with_table : (db : PlainDb) (t : TableNo) (table : PlainTable) → length (with_table db t table).tables ≡ length db.tables
unfolding with_table
length-with_table db t table = length-set db.tables t.0 table

pub room-next : (table : PlainTable) → is_full table ≡ false → table.next < 2 ^ 63
unfolding is_full
room-next table e = leb-false (2 ^ 63) table.next (or_parts (leb 65536 (length table.rows)) (leb (2 ^ 63) table.next) e).1

-- rows whose numbers are above one

pub increase-above : (first next n : ℕ) (rows : List PlainRow) → n < first → IncreaseBelow first next rows → Each (λ (row : PlainRow). n < row.number) rows
unfolding IncreaseBelow Each
increase-above first next n [] below h = tt
increase-above first next n (row ∷ rows) below h =
    (omega (arith, h.0), increase-above (suc row.number) next n rows (omega (arith, h.0)) h.1)

without_row-above : (n : ℕ) (rows : List PlainRow) → Each (λ (row : PlainRow). n < row.number) rows → without_row row_number n rows ≡ rows
unfolding Each without_row kept_unless
without_row-above n [] h = refl
without_row-above n (row ∷ rows) h =
    ap (λ b. kept_unless b row (without_row row_number n rows)) (ne_eqb row.number n (λ e. omega (arith, e, h.0)))
    ∙ ap (λ l. row ∷ l) (without_row-above n rows h.1)

without_rows-first : (n : ℕ) (numbers : List ℕ) (row : PlainRow) (rows : List PlainRow) → row.number ≡ n
    → Each (λ (r : PlainRow). n < r.number) rows → without_rows row_number (n ∷ numbers) (row ∷ rows) ≡ without_rows row_number numbers rows
unfolding without_rows without_row kept_unless
without_rows-first n numbers row rows e above =
    ap (λ b. without_rows row_number numbers (kept_unless b row (without_row row_number n rows))) (eq-eqb row.number n e)
    ∙ ap (λ l. without_rows row_number numbers l) (without_row-above n rows above)

without_rows-kept : (numbers : List ℕ) (row : PlainRow) (rows : List PlainRow) → Each (λ (n : ℕ). row.number < n) numbers
    → without_rows row_number numbers (row ∷ rows) ≡ row ∷ without_rows row_number numbers rows
unfolding Each without_rows without_row kept_unless
without_rows-kept [] row rows h = refl
without_rows-kept (n ∷ numbers) row rows h =
    ap (λ b. without_rows row_number numbers (kept_unless b row (without_row row_number n rows))) (ne_eqb row.number n (λ e. omega (arith, e, h.0)))
    ∙ without_rows-kept numbers row (without_row row_number n rows) h.1

pub filter-each : (P : PlainRow → Type 0) (p : PlainRow → Bool) (rows : List PlainRow) → Each P rows → Each P (filter p rows)
unfolding Each
filter-each P p [] h = tt
filter-each P p (row ∷ rows) h =
    elim (p row) as (λ b. Each P (cond b (row ∷ filter p rows) (filter p rows))) [
      | true ↦ (h.0, filter-each P p rows h.1)
      | false ↦ filter-each P p rows h.1
    ]

numbers-above : (n : ℕ) (rows : List PlainRow) → Each (λ (row : PlainRow). n < row.number) rows
    → Each (λ (k : ℕ). n < k) (map row_number rows)
unfolding Each
numbers-above n [] h = tt
numbers-above n (row ∷ rows) h = (h.0, numbers-above n rows h.1)

-- to take out the numbers of the rows that pass is to keep the rows that don't
pub without-passing : (p : PlainRow → Bool) (first next : ℕ) (rows : List PlainRow) → IncreaseBelow first next rows
    → filter (λ row. not (p row)) rows ≡ without_rows row_number (map row_number (filter p rows)) rows
unfolding IncreaseBelow without_rows
without-passing p first next [] h = refl
without-passing p first next (row ∷ rows) h =
    let above : Each (λ (r : PlainRow). row.number < r.number) rows = increase-above (suc row.number) next row.number rows (omega arith) h.1 in
    let rest : filter (λ row. not (p row)) rows ≡ without_rows row_number (map row_number (filter p rows)) rows =
    without-passing p (suc row.number) next rows h.1 in
    elim (p row) as (λ b.
    cond (not b) (row ∷ filter (λ row. not (p row)) rows) (filter (λ row. not (p row)) rows)
    ≡ without_rows row_number (map row_number (cond b (row ∷ filter p rows) (filter p rows))) (row ∷ rows)) [
      | true ↦ rest ∙ sym (without_rows-first row.number (map row_number (filter p rows)) row rows refl above)
      | false ↦
          ap (λ l. row ∷ l) rest
          ∙ sym (without_rows-kept (map row_number (filter p rows)) row rows (numbers-above row.number (filter p rows) (filter-each _ p rows above)))
    ]
