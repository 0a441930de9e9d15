-- A statement that was answered, taken back, leaves the database that it met.
use Rattle.std.proofs.Common.{◌≡◌, refl, sym, ◌∙◌, ap, ℕ, suc, ◌+◌, ◌-◌, ◌<◌, ◌≤◌, Bool, true, false, not, leb, cond, List, [], ◌∷◌, ◌++◌, map, filter, take, length, arith}
use Rattle.std.proofs.lemmas.Bool.{le-leb, lt-leb}
use Rattle.std.proofs.lemmas.Bool.Decides.{nat_tests}
use Rattle.std.proofs.Math.Seq.{take-append_seam}
use Rattle.std.proofs.lemmas.List.{length_push, get_or-set_same}
use Rattle.std.specs.Ordering.{is_lt}
use Rattle.std.proofs.Common.{nat_cmp}
use Rattle.mope_base.specs.declared.numbers.TableNo.{TableNo}
use Rattle.mope_base.specs.Lists.{Each}
use Rattle.workload.specs.declared.plain.PlainRow.{PlainRow}
use Rattle.workload.specs.declared.plain.PlainTable.{PlainTable}
use Rattle.workload.specs.declared.plain.PlainDb.{PlainDb}
use Rattle.workload.specs.declared.script.Answer.{Answer}
use Rattle.workload.specs.Selection.{in_front, insert_ordered, ordered, without_rows}
use Rattle.workload.specs.PlainDatabase.{empty_table, table_of, with_table, is_full, with_row, row_number, table_without}
use Rattle.workload.specs.declared.script.Ask.{Ask}
use Rattle.workload.specs.Outcome.{full, answered, inserted, asked, left_by}
use Rattle.workload.proofs.StableSort.{IsOrder}
use Rattle.plain_db.specs.declared.taking_back.Undo.{Undo}
use Rattle.plain_db.specs.declared.taking_back.Undo.TheVariants as undo
use Rattle.plain_db.specs.Answerable.{IncreaseBelow, IsNumbered}
use Rattle.plain_db.specs.TakingBack.{by_number, without_last, with_rows, undo_by, undone, all_undone}
use Rattle.plain_db.proofs.TableOutcomes.{with_table-same}
use Rattle.plain_db.proofs.TableLemmas.{increase-above, filter-each, without-passing, with_table-twice}

pub number-order : IsOrder by_number
unfolding by_number
number-order = record {
  total = λ x y h. grind (arith, nat_tests);
  chain = λ x y z h k. grind (arith, nat_tests);
}

pub number-compared : (a b : PlainRow) → is_lt (nat_cmp a.number b.number) ≡ not (by_number b a)
unfolding by_number
number-compared a b = grind (arith, nat_tests)

-- the rows are numbered above this one
abbrev Above : PlainRow → List PlainRow → Type 0
Above x rows = Each (λ (row : PlainRow). x.number < row.number) rows

insert-above : (x y : PlainRow) (rows : List PlainRow) → x.number < y.number → Above x rows → Above x (insert_ordered by_number y rows)
unfolding insert_ordered Each in_front
insert-above x y [] above h = (above, tt)
insert-above x y (z ∷ rows) above h =
    elim (by_number y z) as (λ b. Above x (in_front b y z rows (insert_ordered by_number y rows))) [
      | true ↦ (above, h)
      | false ↦ (h.0, insert-above x y rows above h.1)
    ]

ordered-above : (x : PlainRow) (rows : List PlainRow) → Above x rows → Above x (ordered by_number rows)
unfolding ordered Each
ordered-above x [] h = tt
ordered-above x (y ∷ rows) h = insert-above x y (ordered by_number rows) h.0 (ordered-above x rows h.1)

insert-first : (x : PlainRow) (rows : List PlainRow) → Above x rows → insert_ordered by_number x rows ≡ x ∷ rows
unfolding insert_ordered Each in_front by_number
insert-first x [] h = refl
insert-first x (y ∷ rows) h =
    ap (λ b. in_front b x y rows (insert_ordered by_number x rows)) (le-leb x.number y.number (omega (arith, h.0)))

insert-second : (x y : PlainRow) (rows : List PlainRow) → x.number < y.number
    → insert_ordered by_number y (x ∷ rows) ≡ x ∷ insert_ordered by_number y rows
unfolding insert_ordered in_front by_number
insert-second x y rows above =
    ap (λ b. in_front b y x rows (insert_ordered by_number y rows)) (lt-leb y.number x.number above)

-- the lowest row stands first, wherever it stood
ordered-lowest : (x : PlainRow) (kept taken : List PlainRow) → Above x kept → Above x taken
    → ordered by_number (kept ++ x ∷ taken) ≡ x ∷ ordered by_number (kept ++ taken)
unfolding ordered Each
ordered-lowest x [] taken k t = insert-first x (ordered by_number taken) (ordered-above x taken t)
ordered-lowest x (y ∷ kept) taken k t =
    ap (λ l. insert_ordered by_number y l) (ordered-lowest x kept taken k.1 t)
    ∙ insert-second x y (ordered by_number (kept ++ taken)) k.0

above-append : (x : PlainRow) (kept taken : List PlainRow) → Above x kept → Above x taken → Above x (kept ++ taken)
unfolding Each
above-append x [] taken k t = t
above-append x (y ∷ kept) taken k t = (k.0, above-append x kept taken k.1 t)

-- the rows that don't pass and those that do, put in order, are the rows
ordered-back : (p : PlainRow → Bool) (first next : ℕ) (rows : List PlainRow) → IncreaseBelow first next rows
    → ordered by_number (filter (λ row. not (p row)) rows ++ filter p rows) ≡ rows
unfolding IncreaseBelow ordered
ordered-back p first next [] h = refl
ordered-back p first next (row ∷ rows) h =
    let above : Above row rows = increase-above (suc row.number) next row.number rows (omega arith) h.1 in
    let kept : Above row (filter (λ row. not (p row)) rows) = filter-each _ (λ row. not (p row)) rows above in
    let taken : Above row (filter p rows) = filter-each _ p rows above in
    let rest : ordered by_number (filter (λ row. not (p row)) rows ++ filter p rows) ≡ rows = ordered-back p (suc row.number) next rows h.1 in
    elim (p row) as (λ b.
    ordered by_number (cond (not b) (row ∷ filter (λ row. not (p row)) rows) (filter (λ row. not (p row)) rows)
    ++ cond b (row ∷ filter p rows) (filter p rows)) ≡ row ∷ rows) [
      | true ↦
          ordered-lowest row (filter (λ row. not (p row)) rows) (filter p rows) kept taken ∙ ap (λ l. row ∷ l) rest
      | false ↦
          insert-first row (ordered by_number (filter (λ row. not (p row)) rows ++ filter p rows))
          (ordered-above row (filter (λ row. not (p row)) rows ++ filter p rows)
          (above-append row (filter (λ row. not (p row)) rows) (filter p rows) kept taken))
          ∙ ap (λ l. row ∷ l) rest
    ]

table_of-put : (db : PlainDb) (t : TableNo) (table : PlainTable) → t.0 < length db.tables → table_of (with_table db t table) t ≡ table
unfolding table_of with_table
table_of-put db t table within = get_or-set_same db.tables t.0 table empty_table within

-- one table, changed and changed back
put-back : (db : PlainDb) (t : TableNo) (changed : PlainTable) (back : PlainTable → PlainTable) → t.0 < length db.tables
    → back changed ≡ table_of db t
    → with_table (with_table db t changed) t (back (table_of (with_table db t changed) t)) ≡ db
put-back db t changed back within is =
    with_table-twice db t changed (back (table_of (with_table db t changed) t))
    ∙ ap (λ table. with_table db t (back table)) (table_of-put db t changed within)
    ∙ ap (λ table. with_table db t table) is
    ∙ with_table-same db t

rows-back : (p : PlainRow → Bool) (table : PlainTable) → IsNumbered table
    → with_rows (table_without table (map row_number (filter p table.rows))) (filter p table.rows) ≡ table
unfolding with_rows table_without
rows-back p table numbered =
    ap (λ rows. let t : PlainTable = record { rows = rows; next = table.next } in t) (
    ap (λ l. ordered by_number (l ++ filter p table.rows)) (sym (without-passing p 0 table.next table.rows numbered))
    ∙ ordered-back p 0 table.next table.rows numbered)

-- a DELETE of the rows that pass
pub delete-undone : (p : PlainRow → Bool) (db : PlainDb) (t : TableNo) (taken : List PlainRow) → t.0 < length db.tables → IsNumbered (table_of db t)
    → taken ≡ filter p (table_of db t).rows
    → undone (undo_by t taken) (with_table db t (table_without (table_of db t) (map row_number (filter p (table_of db t).rows)))) ≡ db
unfolding undone undo_by table_without without_rows
delete-undone p db t [] within numbered is =
    ap (λ (l : List PlainRow). with_table db t (table_without (table_of db t) (map row_number l))) (sym is) ∙ with_table-same db t
delete-undone p db t (row ∷ taken) within numbered is =
    put-back db t (table_without (table_of db t) (map row_number (filter p (table_of db t).rows))) (λ table. with_rows table (row ∷ taken)) within
    (ap (λ l. with_rows (table_without (table_of db t) (map row_number (filter p (table_of db t).rows))) l) is ∙ rows-back p (table_of db t) numbered)

row-back : (table : PlainTable) (values : List ℕ) → without_last (with_row table values) ≡ table
unfolding without_last with_row
row-back table values =
    let row : PlainRow = record { number = table.next; values = values } in
    let count : length (table.rows ++ row ∷ []) - 1 ≡ length table.rows = omega (arith, length_push table.rows row) in
    let before : suc table.next - 1 ≡ table.next = omega arith in
    ap (λ n. let t : PlainTable = record { rows = take n (table.rows ++ row ∷ []); next = suc table.next - 1 } in t) count
    ∙ ap (λ rows. let t : PlainTable = record { rows = rows; next = suc table.next - 1 } in t) (take-append_seam table.rows (row ∷ []))
    ∙ ap (λ n. let t : PlainTable = record { rows = table.rows; next = n } in t) before

-- an INSERT
pub insert-undone : (b : Bool) (db new : PlainDb) (t : TableNo) (values : List ℕ) (a : Answer) → t.0 < length db.tables
    → inserted b db t values ≡ answered a new → with_table new t (without_last (table_of new t)) ≡ db
unfolding inserted
insert-undone true db new t values a within is = cc
insert-undone false db new t values a within is =
    let same : new ≡ with_table db t (with_row (table_of db t) values) = cc in
    ap (λ d. with_table d t (without_last (table_of d t))) same
    ∙ put-back db t (with_row (table_of db t) values) without_last within (row-back (table_of db t) values)

-- one more to take back is taken back first
pub undone-push : (undos : List Undo) (one : Undo) (db : PlainDb) → all_undone (undos ++ one ∷ []) db ≡ all_undone undos (undone one db)
unfolding all_undone
undone-push [] one db = refl
undone-push (other ∷ undos) one db = ap (λ d. undone other d) (undone-push undos one db)

pub undo-none : (t : TableNo) (rows : List PlainRow) → length rows ≡ 0 → undo.Nothing ≡ undo_by t rows
unfolding undo_by
undo-none t [] none = refl
undo-none t (row ∷ rows) none = cc

pub undo-some : (t : TableNo) (rows : List PlainRow) → (length rows ≡ 0 → ⊥) → undo.Delete t rows ≡ undo_by t rows
unfolding undo_by
undo-some t [] some = absurd (some refl)
undo-some t (row ∷ rows) some = refl

-- what a statement that asks leaves
pub asked-left : (db new : PlainDb) (ask : Ask) (rows : List PlainRow) (a : Answer) → asked db ask rows ≡ answered a new
    → new ≡ left_by ask.verb ask.table rows db
unfolding asked
asked-left db new ask rows a is = let same : left_by ask.verb ask.table rows db ≡ new = cc in sym same
