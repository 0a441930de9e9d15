use Rattle.std.proofs.Common.{◌≡◌, ◌∙◌, ap, sym}
use Rattle.std.proofs.lemmas.List.{get_or_read}
use Rattle.workload.specs.declared.script.Answer.TheVariants as answer
use Rattle.workload.specs.PlainDatabase.{table_of, with_table, with_row, is_full, empty_table}
use Rattle.workload.specs.Outcome.{inserted, answered}
use Rattle.plain_db.specs.Answerable.{outcome_shown}
use Rattle.plain_db.proofs.answering.insert_answer.Goals as goal

pub returns-then-takes_no_row-clause-outcome : goal.returns-then-takes_no_row-clause-outcome
unfolding table_of inserted outcome_shown
returns-then-takes_no_row-clause-outcome c =
    let table : c.index-as_slice-t.result ≡ table_of c.args.db.now c.args.t =
    get_or_read c.args.db.now.tables c.args.t.0 c.index-as_slice-t.result c.requires (rw c.as_slice.ensures at c.index-as_slice-t.is) empty_table in
    ap (λ b. inserted b c.args.db.now c.args.t c.args.values.now) (ap is_full (sym table) ∙ sym c.takes_no_row.ensures ∙ c.if-takes_no_row.true)

pub put_row-requires-clause-has_room : goal.put_row-requires-clause-has_room
unfolding table_of
put_row-requires-clause-has_room c =
    let table : c.index-as_slice-t.result ≡ table_of c.args.db.now c.args.t =
    get_or_read c.args.db.now.tables c.args.t.0 c.index-as_slice-t.result c.requires (rw c.as_slice.ensures at c.index-as_slice-t.is) empty_table in
    ap is_full (sym table) ∙ sym c.takes_no_row.ensures ∙ c.if-takes_no_row.false

pub returns-in-Ok-put_row-clause-outcome : goal.returns-in-Ok-put_row-clause-outcome
unfolding table_of inserted outcome_shown
returns-in-Ok-put_row-clause-outcome c =
    let table : c.index-as_slice-t.result ≡ table_of c.args.db.now c.args.t =
    get_or_read c.args.db.now.tables c.args.t.0 c.index-as_slice-t.result c.requires (rw c.as_slice.ensures at c.index-as_slice-t.is) empty_table in
    ap (λ b. inserted b c.args.db.now c.args.t c.args.values.now) (ap is_full (sym table) ∙ sym c.takes_no_row.ensures ∙ c.if-takes_no_row.false)
    ∙ ap (λ db. answered answer.Inserted db) (
    sym (c.in-Ok-put_row.ensures.ok ∙ ap (λ values. with_table c.args.db.now c.args.t (with_row (table_of c.args.db.now c.args.t) values)) c.in-Ok.ensures))
