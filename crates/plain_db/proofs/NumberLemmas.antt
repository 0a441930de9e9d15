-- No statement disturbs the order of the rows' numbers.
use Rattle.std.proofs.Common.{◌≡◌, sym, ap, subst, ℕ, zero, suc, ◌<◌, ◌≤◌, Bool, true, false, eqb, List, [], ◌∷◌, ◌++◌, map, length, get_or, set, Option, Some, None, arith}
use Rattle.std.proofs.lemmas.List.{length-set}
use Rattle.mope_base.specs.declared.numbers.TableNo.{TableNo}
use Rattle.workload.specs.declared.plain.PlainRow.{PlainRow}
use Rattle.workload.specs.declared.plain.PlainTable.{PlainTable}
use Rattle.workload.specs.declared.plain.PlainDb.{PlainDb}
use Rattle.workload.specs.declared.script.Act.{Act}
use Rattle.workload.specs.declared.script.Act.TheVariants as act
use Rattle.workload.specs.declared.script.Answer.{Answer}
use Rattle.workload.specs.declared.script.Verb.{Verb}
use Rattle.workload.specs.declared.script.Verb.TheVariants as verb
use Rattle.mope_base.specs.Lists.{Each}
use Rattle.workload.specs.PlainDatabase.{empty_table, table_of, with_table, is_full, with_row, table_without, row_number}
use Rattle.workload.specs.Selection.{selected, kept_unless, without_row, without_rows}
use Rattle.workload.specs.Outcome.{Outcome, full, answered, outcome_of, value_at}
use Rattle.workload.specs.Transaction.{Work, going, work_of, table_named, after_outcome, after_act}
use Rattle.plain_db.specs.Answerable.{IncreaseBelow, IsNumbered}
use Rattle.plain_db.specs.Trying.{AllNumbered}
use Rattle.plain_db.proofs.TableOutcomes.{insert_on, left_on, ask_on, outcome_on, put_back, outcome-table}
use Rattle.plain_db.proofs.TrialLemmas.{is_going}

increase-lower : (low first next : ℕ) (rows : List PlainRow) → low ≤ first → IncreaseBelow first next rows → IncreaseBelow low next rows
unfolding IncreaseBelow
increase-lower low first next [] lower h = omega (arith, lower, h)
increase-lower low first next (row ∷ rows) lower h = (omega (arith, lower, h.0), h.1)

increase-push : (first next : ℕ) (rows : List PlainRow) (values : List ℕ) → IncreaseBelow first next rows
    → IncreaseBelow first (suc next) (rows ++ record { number = next; values = values } ∷ [])
unfolding IncreaseBelow
increase-push first next [] values h = (h, let e : suc next ≤ suc next = omega arith in e)
increase-push first next (row ∷ rows) values h = (h.0, increase-push (suc row.number) next rows values h.1)

kept-increase : (b : Bool) (first next : ℕ) (row : PlainRow) (rows : List PlainRow) → first ≤ row.number
    → IncreaseBelow (suc row.number) next rows → IncreaseBelow first next (kept_unless b row rows)
unfolding IncreaseBelow kept_unless
kept-increase true first next row rows low h = increase-lower first (suc row.number) next rows (omega (arith, low)) h
kept-increase false first next row rows low h = (low, h)

without_row-increase : (n first next : ℕ) (rows : List PlainRow) → IncreaseBelow first next rows → IncreaseBelow first next (without_row row_number n rows)
unfolding IncreaseBelow without_row
without_row-increase n first next [] h = h
without_row-increase n first next (row ∷ rows) h =
    kept-increase (eqb row.number n) first next row (without_row row_number n rows) h.0 (without_row-increase n (suc row.number) next rows h.1)

without_rows-increase : (numbers : List ℕ) (first next : ℕ) (rows : List PlainRow) → IncreaseBelow first next rows
    → IncreaseBelow first next (without_rows row_number numbers rows)
unfolding without_rows
without_rows-increase [] first next rows h = h
without_rows-increase (n ∷ numbers) first next rows h =
    without_rows-increase numbers first next (without_row row_number n rows) (without_row-increase n first next rows h)

-- what a statement leaves of its table is numbered in order
unfoldable NumberedAfter : Option (Answer × PlainTable) → Type 0
NumberedAfter None = Unit {0}
NumberedAfter (Some done) = IsNumbered done.1

insert-numbered : (b : Bool) (table : PlainTable) (values : List ℕ) → IsNumbered table → NumberedAfter (insert_on b table values)
unfolding NumberedAfter insert_on with_row
insert-numbered true table values h = tt
insert-numbered false table values h = increase-push 0 table.next table.rows values h

left-numbered : (v : Verb) (rows : List PlainRow) (table : PlainTable) → IsNumbered table → IsNumbered (left_on v rows table)
unfolding left_on table_without
left-numbered (verb.Rows columns order limit) rows table h = h
left-numbered verb.Count rows table h = h
left-numbered (verb.Min column) rows table h = h
left-numbered (verb.Max column) rows table h = h
left-numbered verb.Delete rows table h = without_rows-increase (map row_number rows) 0 table.next table.rows h

outcome-numbered : (table : PlainTable) (statement : Act) → IsNumbered table → NumberedAfter (outcome_on table statement)
unfolding outcome_on ask_on NumberedAfter
outcome-numbered table (act.Insert t values) h = insert-numbered (is_full table) table values h
outcome-numbered table (act.Ask ask) h = left-numbered ask.verb (selected value_at ask table.rows) table h

pub each-get : {A : Type 0} (P : A → Type 0) (xs : List A) (i : ℕ) (d : A) → Each P xs → P d → P (get_or xs i d)
unfolding Each
each-get P [] i d h p = p
each-get P (x ∷ xs) zero d h p = h.0
each-get P (x ∷ xs) (suc i) d h p = each-get P xs i d h.1 p

pub each-set : {A : Type 0} (P : A → Type 0) (xs : List A) (i : ℕ) (y : A) → Each P xs → P y → Each P (set xs i y)
unfolding Each
each-set P [] i y h p = tt
each-set P (x ∷ xs) zero y h p = (p, h.1)
each-set P (x ∷ xs) (suc i) y h p = (h.0, each-set P xs i y h.1 p)

empty-numbered : IsNumbered empty_table
unfolding IncreaseBelow empty_table
empty-numbered = let h : 0 ≤ 1 = omega arith in h

pub table-numbered : (db : PlainDb) (t : TableNo) → AllNumbered db → IsNumbered (table_of db t)
unfolding table_of
table-numbered db t h = each-get IsNumbered db.tables t.0 empty_table h empty-numbered

-- of an outcome: the database that it leaves is numbered in order, and has as many tables
unfoldable NumberedOutcome : ℕ → Outcome → Type 0
NumberedOutcome n full = Unit {0}
NumberedOutcome n (answered a db) = AllNumbered db × (length db.tables ≡ n)

put_back-numbered : (db : PlainDb) (t : TableNo) (o : Option (Answer × PlainTable)) → AllNumbered db → NumberedAfter o
    → NumberedOutcome (length db.tables) (put_back db t o)
unfolding NumberedAfter NumberedOutcome put_back with_table
put_back-numbered db t None h p = tt
put_back-numbered db t (Some done) h p = (each-set IsNumbered db.tables t.0 done.1 h p, length-set db.tables t.0 done.1)

act-numbered : (db : PlainDb) (statement : Act) → AllNumbered db → NumberedOutcome (length db.tables) (outcome_of db statement)
act-numbered db statement h =
    subst (λ o. NumberedOutcome (length db.tables) o) (sym (outcome-table db statement))
    (put_back-numbered db (table_named statement) (outcome_on (table_of db (table_named statement)) statement) h
    (outcome-numbered (table_of db (table_named statement)) statement (table-numbered db (table_named statement) h)))

after-numbered : (n : ℕ) (work next : Work) (statement : Act) (o : Outcome) → NumberedOutcome n o
    → after_outcome work statement o ≡ going next → AllNumbered next.copy × (length next.copy.tables ≡ n)
unfolding NumberedOutcome after_outcome work_of is_going
after-numbered n work next statement full h e = cc
after-numbered n work next statement (answered a db) h e =
    subst (λ d. AllNumbered d × (length d.tables ≡ n)) (ap (λ trial. (work_of trial).copy) e) h

-- a transaction's copy stays numbered in order
pub going-numbered : (work next : Work) (statement : Act) → AllNumbered work.copy → after_act (going work) statement ≡ going next
    → AllNumbered next.copy × (length next.copy.tables ≡ length work.copy.tables)
unfolding after_act
going-numbered work next statement h e =
    after-numbered (length work.copy.tables) work next statement (outcome_of work.copy statement) (act-numbered work.copy statement h) e

pub each-at : {A : Type 0} (P : A → Type 0) (xs : List A) (i : ℕ) (d : A) → Each P xs → i < length xs → P (get_or xs i d)
unfolding Each
each-at P [] i d h within = absurd (omega (arith, within))
each-at P (x ∷ xs) zero d h within = h.0
each-at P (x ∷ xs) (suc i) d h within = each-at P xs i d h.1 (omega (arith, within))
