use Rattle.std.proofs.Common.{◌∙◌, ap, length, arith}
use Rattle.std.proofs.lemmas.Result.{on_ok_weaker, on_err_weaker}
use Rattle.workload.specs.declared.plain.PlainDb.{PlainDb}
use Rattle.workload.specs.PlainDatabase.{with_table, with_row}
use Rattle.plain_db.proofs.TableLemmas.{with_table-twice, with_table-back, length-with_table}
use Rattle.plain_db.proofs.tables.put_row.Goals as goal

pub push_row-pushed-requires : goal.push_row-pushed-requires
push_row-pushed-requires c = rw c.exchange-table.ensures.given c.requires.has_room

pub exchange-requires : goal.exchange-requires
exchange-requires c =
    omega (arith, c.requires.is_there, ap (λ (db : PlainDb). length db.tables) c.exchange-table.ensures.left, length-with_table c.args.db.now c.args.t c.no_rows.result)

pub returns-clause-ok : goal.returns-clause-ok
returns-clause-ok c =
    on_ok_weaker c.push_row-pushed.result (λ pushed.
    c.exchange.ensures.left
    ∙ ap (λ db. with_table db c.args.t c.push_row-pushed.new.table) c.exchange-table.ensures.left
    ∙ with_table-twice c.args.db.now c.args.t c.no_rows.result c.push_row-pushed.new.table
    ∙ ap (λ table. with_table c.args.db.now c.args.t table) (pushed ∙ ap (λ table. with_row table c.args.values) c.exchange-table.ensures.given))
    c.push_row-pushed.ensures.ok

pub returns-clause-err : goal.returns-clause-err
returns-clause-err c =
    on_err_weaker c.push_row-pushed.result (λ same.
    c.exchange.ensures.left
    ∙ ap (λ db. with_table db c.args.t c.push_row-pushed.new.table) c.exchange-table.ensures.left
    ∙ ap (λ table. with_table (with_table c.args.db.now c.args.t c.no_rows.result) c.args.t table) (same ∙ c.exchange-table.ensures.given)
    ∙ with_table-back c.args.db.now c.args.t c.no_rows.result)
    c.push_row-pushed.ensures.err
