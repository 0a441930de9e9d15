-- What a statement does, told by its table alone: its answer and what it leaves of the table.
use Rattle.std.proofs.Common.{◌≡◌, refl, sym, ◌∙◌, ap, ℕ, Bool, true, false, List, [], map, length, get_or, set, Option, Some, None, inl, inr, arith}
use Rattle.std.proofs.lemmas.Bool.{cases_lt, cases_eq, ltb-false, true≢false}
use Rattle.std.proofs.lemmas.List.{length-set, get_or-set_same, get_or-set_other, set_past, set-get_or, ext_get_or, nil_from_length, get_or_past}
use Rattle.mope_base.specs.declared.numbers.TableNo.{TableNo}
use Rattle.workload.specs.declared.plain.PlainRow.{PlainRow}
use Rattle.workload.specs.declared.plain.PlainTable.{PlainTable}
use Rattle.workload.specs.declared.plain.PlainDb.{PlainDb}
use Rattle.workload.specs.declared.script.Ask.{Ask}
use Rattle.workload.specs.declared.script.Act.{Act}
use Rattle.workload.specs.declared.script.Act.TheVariants as act
use Rattle.workload.specs.declared.script.Verb.{Verb}
use Rattle.workload.specs.declared.script.Verb.TheVariants as verb
use Rattle.workload.specs.declared.script.Answer.{Answer}
use Rattle.workload.specs.declared.script.Answer.TheVariants as answer
use Rattle.workload.specs.PlainDatabase.{empty_table, table_of, with_table, is_full, with_row, table_without, row_number}
use Rattle.workload.specs.Selection.{selected, answer_about, without_rows}
use Rattle.workload.specs.Outcome.{Outcome, full, answered, left_by, inserted, asked, outcome_of, value_at}
use Rattle.workload.specs.Transaction.{table_named, is_op}

-- the table at a place
unfoldable pub at : PlainDb → ℕ → PlainTable
at db i = get_or db.tables i empty_table

unfoldable pub size : PlainDb → ℕ
size db = length db.tables

pub size-with_table : (db : PlainDb) (t : TableNo) (table : PlainTable) → size (with_table db t table) ≡ size db
unfolding size with_table
size-with_table db t table = length-set db.tables t.0 table

pub at-other : (db : PlainDb) (t : TableNo) (table : PlainTable) (i : ℕ) → (i ≡ t.0 → ⊥) → at (with_table db t table) i ≡ at db i
unfolding at with_table
at-other db t table i other = get_or-set_other db.tables t.0 i table empty_table other

-- a table put into each of two databases of one size leaves them equal wherever they were
pub at-both : (a b : PlainDb) (t : TableNo) (table : PlainTable) (i : ℕ) → size a ≡ size b → at a i ≡ at b i
    → at (with_table a t table) i ≡ at (with_table b t table) i
unfolding at with_table size
at-both a b t table i sizes same =
    elim (cases_eq i t.0) as (λ _. get_or (set a.tables t.0 table) i empty_table ≡ get_or (set b.tables t.0 table) i empty_table) [
      | inl here ↦
          elim (cases_lt t.0 (length a.tables)) as (λ _. get_or (set a.tables t.0 table) i empty_table ≡ get_or (set b.tables t.0 table) i empty_table) [
            | inl within ↦
                rw here (
                get_or-set_same a.tables t.0 table empty_table within
                ∙ sym (get_or-set_same b.tables t.0 table empty_table (omega arith)))
            | inr past ↦
                rw (set_past a.tables t.0 table past, set_past b.tables t.0 table (omega arith)) same
          ]
      | inr other ↦
          get_or-set_other a.tables t.0 i table empty_table other ∙ same ∙ sym (get_or-set_other b.tables t.0 i table empty_table other)
    ]

-- the same at the table itself, whatever they were there
pub at-put : (a b : PlainDb) (t : TableNo) (table : PlainTable) → size a ≡ size b
    → at (with_table a t table) t.0 ≡ at (with_table b t table) t.0
unfolding at with_table size
at-put a b t table sizes =
    elim (cases_lt t.0 (length a.tables)) as (λ _. get_or (set a.tables t.0 table) t.0 empty_table ≡ get_or (set b.tables t.0 table) t.0 empty_table) [
      | inl within ↦
          get_or-set_same a.tables t.0 table empty_table within ∙ sym (get_or-set_same b.tables t.0 table empty_table (omega arith))
      | inr past ↦
          get_or_past (set a.tables t.0 table) t.0 empty_table (omega (arith, length-set a.tables t.0 table))
          ∙ sym (get_or_past (set b.tables t.0 table) t.0 empty_table (omega (arith, length-set b.tables t.0 table)))
    ]

pub with_table-same : (db : PlainDb) (t : TableNo) → with_table db t (table_of db t) ≡ db
unfolding with_table table_of
with_table-same db t = ap (λ tables. let d : PlainDb = record { tables = tables } in d) (set-get_or db.tables t.0 empty_table)

-- databases of one size that agree at each place are one
pub same_databases : (a b : PlainDb) → size a ≡ size b → ((i : ℕ) → at a i ≡ at b i) → a ≡ b
unfolding at size
same_databases a b sizes same =
    ap (λ tables. let d : PlainDb = record { tables = tables } in d) (ext_get_or empty_table a.tables b.tables sizes (λ i h. same i))

-- what a statement answers over its table, and what it leaves of it; none where it met the full table
unfoldable pub insert_on : Bool → PlainTable → List ℕ → Option (Answer × PlainTable)
insert_on true table values = None
insert_on false table values = Some (answer.Inserted, with_row table values)

unfoldable pub left_on : Verb → List PlainRow → PlainTable → PlainTable
left_on (verb.Rows columns order limit) rows table = table
left_on verb.Count rows table = table
left_on (verb.Min column) rows table = table
left_on (verb.Max column) rows table = table
left_on verb.Delete rows table = table_without table (map row_number rows)

unfoldable pub ask_on : Ask → List PlainRow → PlainTable → Option (Answer × PlainTable)
ask_on ask rows table = Some (answer_about value_at ask.verb rows, left_on ask.verb rows table)

unfoldable pub outcome_on : PlainTable → Act → Option (Answer × PlainTable)
outcome_on table (act.Insert t values) = insert_on (is_full table) table values
outcome_on table (act.Ask ask) = ask_on ask (selected value_at ask table.rows) table

-- the same of the database
unfoldable pub put_back : PlainDb → TableNo → Option (Answer × PlainTable) → Outcome
put_back db t None = full
put_back db t (Some done) = answered done.0 (with_table db t done.1)

insert-put_back : (is : Bool) (db : PlainDb) (t : TableNo) (values : List ℕ)
    → inserted is db t values ≡ put_back db t (insert_on is (table_of db t) values)
unfolding inserted put_back insert_on
insert-put_back true db t values = refl
insert-put_back false db t values = refl

left_by-on : (v : Verb) (db : PlainDb) (t : TableNo) (rows : List PlainRow)
    → left_by v t rows db ≡ with_table db t (left_on v rows (table_of db t))
unfolding left_by left_on
left_by-on (verb.Rows columns order limit) db t rows = sym (with_table-same db t)
left_by-on verb.Count db t rows = sym (with_table-same db t)
left_by-on (verb.Min column) db t rows = sym (with_table-same db t)
left_by-on (verb.Max column) db t rows = sym (with_table-same db t)
left_by-on verb.Delete db t rows = refl

-- a statement's outcome is that over its table
pub outcome-table : (db : PlainDb) (statement : Act)
    → outcome_of db statement ≡ put_back db (table_named statement) (outcome_on (table_of db (table_named statement)) statement)
unfolding outcome_of asked put_back outcome_on table_named ask_on
outcome-table db (act.Insert t values) = insert-put_back (is_full (table_of db t)) db t values
outcome-table db (act.Ask ask) =
    let rows : List PlainRow = selected value_at ask (table_of db ask.table).rows in
    ap (λ d. answered (answer_about value_at ask.verb rows) d) (left_by-on ask.verb db ask.table rows)

-- what is no op leaves the table
unfoldable pub KeptUnlessOp : PlainTable → Option (Answer × PlainTable) → Type 0
KeptUnlessOp table None = Unit {0}
KeptUnlessOp table (Some done) = is_op done.0 ≡ false → done.1 ≡ table

insert_kept : (is : Bool) (table : PlainTable) (values : List ℕ) → KeptUnlessOp table (insert_on is table values)
unfolding KeptUnlessOp insert_on is_op
insert_kept true table values = tt
insert_kept false table values = λ e. absurd (true≢false e)

ask_kept : (v : Verb) (rows : List PlainRow) (table : PlainTable) → is_op (answer_about value_at v rows) ≡ false → left_on v rows table ≡ table
unfolding left_on answer_about is_op table_without without_rows
ask_kept (verb.Rows columns order limit) rows table e = refl
ask_kept verb.Count rows table e = refl
ask_kept (verb.Min column) rows table e = refl
ask_kept (verb.Max column) rows table e = refl
ask_kept verb.Delete rows table e =
    let none : rows ≡ [] = nil_from_length rows (omega (arith, ltb-false 0 (length rows) e)) in
    ap (λ (r : List PlainRow). table_without table (map row_number r)) none

pub kept_unless_op : (table : PlainTable) (statement : Act) → KeptUnlessOp table (outcome_on table statement)
unfolding outcome_on KeptUnlessOp ask_on
kept_unless_op table (act.Insert t values) = insert_kept (is_full table) table values
kept_unless_op table (act.Ask ask) = ask_kept ask.verb (selected value_at ask table.rows) table
