use Rattle.std.proofs.Common.{◌≡◌, ◌∙◌, ap, sym, filter}
use Rattle.workload.specs.Selection.{selected, chosen, passes}
use Rattle.workload.specs.Outcome.{left_by, value_at}
use Rattle.std.proofs.lemmas.List.{get_or_read}
use Rattle.workload.specs.declared.plain.PlainTable.{PlainTable}
use Rattle.workload.specs.declared.script.Verb.TheVariants as verb
use Rattle.workload.specs.Transaction.{table_named}
use Rattle.workload.specs.PlainDatabase.{table_of, empty_table}
use Rattle.plain_db.specs.TakingBack.{undo_by, undone}
use Rattle.plain_db.proofs.TakingBackLemmas.{asked-left, delete-undone}
use Rattle.plain_db.proofs.taking_back.undo_of_ask.Goals as goal

pub bounds-as_slice-ask : goal.bounds-as_slice-ask
unfolding table_named
bounds-as_slice-ask c = rw c.as_slice.ensures c.requires.is_there

pub returns-in-Rows : goal.returns-in-Rows
unfolding undone left_by
returns-in-Rows c = λ a new is.
    asked-left c.args.db.now new c.args.ask.now _ a is
    ∙ ap (λ v. left_by v c.args.ask.now.table (selected value_at c.args.ask.now (table_of c.args.db.now c.args.ask.now.table).rows) c.args.db.now) c.in-Rows.is

pub returns-in-Count : goal.returns-in-Count
unfolding undone left_by
returns-in-Count c = λ a new is.
    asked-left c.args.db.now new c.args.ask.now _ a is
    ∙ ap (λ v. left_by v c.args.ask.now.table (selected value_at c.args.ask.now (table_of c.args.db.now c.args.ask.now.table).rows) c.args.db.now) c.in-Count.is

pub returns-in-Min : goal.returns-in-Min
unfolding undone left_by
returns-in-Min c = λ a new is.
    asked-left c.args.db.now new c.args.ask.now _ a is
    ∙ ap (λ v. left_by v c.args.ask.now.table (selected value_at c.args.ask.now (table_of c.args.db.now c.args.ask.now.table).rows) c.args.db.now) c.in-Min.is

pub returns-in-Max : goal.returns-in-Max
unfolding undone left_by
returns-in-Max c = λ a new is.
    asked-left c.args.db.now new c.args.ask.now _ a is
    ∙ ap (λ v. left_by v c.args.ask.now.table (selected value_at c.args.ask.now (table_of c.args.db.now c.args.ask.now.table).rows) c.args.db.now) c.in-Max.is

pub returns-in_ok-taken-in-Delete : goal.returns-in_ok-taken-in-Delete
unfolding selected chosen left_by table_named table_of
returns-in_ok-taken-in-Delete c = λ a new is.
    let t = c.args.ask.now.table in
    let p = passes value_at c.args.ask.now.tests in
    let table : c.index-as_slice-ask.result ≡ table_of c.args.db.now t =
    get_or_read c.args.db.now.tables t.0 c.index-as_slice-ask.result c.requires.is_there (rw c.as_slice.ensures at c.index-as_slice-ask.is) empty_table in
    let taken : c.in_ok-taken-in-Delete.taken ≡ filter p (table_of c.args.db.now t).rows =
    c.in_ok-taken-in-Delete.ensures
    ∙ ap (λ tests. filter (passes value_at tests) c.as_slice-rows.result.now) c.as_slice-in-Delete.ensures
    ∙ ap (λ rows. filter p rows) c.as_slice-rows.ensures
    ∙ ap (λ (found : PlainTable). filter p found.rows) (sym c.index-as_slice-ask.is ∙ table) in
    let left : new ≡ left_by verb.Delete t (chosen value_at verb.Delete (filter p (table_of c.args.db.now t).rows)) c.args.db.now =
    asked-left c.args.db.now new c.args.ask.now _ a is
    ∙ ap (λ v. left_by v t (chosen value_at v (filter p (table_of c.args.db.now t).rows)) c.args.db.now) c.in-Delete.is in
    ap (λ u. undone u new) c.undo_delete.ensures
    ∙ ap (λ d. undone (undo_by t c.in_ok-taken-in-Delete.taken) d) left
    ∙ delete-undone p c.args.db.now t c.in_ok-taken-in-Delete.taken c.requires.is_there c.requires.numbered taken
