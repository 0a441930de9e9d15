use Rattle.std.proofs.Common.{◌≡◌, ◌∙◌, ap, sym}
use Rattle.std.proofs.lemmas.List.{get_or_read}
use Rattle.std.proofs.lemmas.Result.{IfOk-weaker}
use Rattle.workload.specs.declared.plain.PlainTable.{PlainTable}
use Rattle.workload.specs.PlainDatabase.{table_of, empty_table}
use Rattle.workload.specs.Selection.{selected, answer_about}
use Rattle.workload.specs.Outcome.{value_at}
use Rattle.plain_db.specs.Positions.{rows_at}
use Rattle.plain_db.proofs.answering.ask_answer.Goals as goal

pub returns : goal.returns
unfolding table_of
returns c =
    let table : c.index-as_slice-ask.result ≡ table_of c.args.db.now c.args.ask.now.table =
    get_or_read c.args.db.now.tables c.args.ask.now.table.0 c.index-as_slice-ask.result c.requires.is_there
    (rw c.as_slice.ensures at c.index-as_slice-ask.is) empty_table in
    IfOk-weaker c.answer_of.result _ _ (λ a e.
    e
    ∙ ap (λ positions. answer_about value_at c.args.ask.now.verb (rows_at c.as_slice-rows.result.now positions)) c.deref.ensures.value
    ∙ ap (λ rows. answer_about value_at c.args.ask.now.verb rows) (
    c.in_ok-positions.ensures
    ∙ ap (λ rows. selected value_at c.args.ask.now rows) (c.as_slice-rows.ensures ∙ ap (λ (t : PlainTable). t.rows) (sym c.index-as_slice-ask.is ∙ table))))
    c.answer_of.ensures
