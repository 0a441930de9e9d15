use Rattle.std.proofs.Common.{◌∙◌, ap, length, map, filter, arith}
use Rattle.workload.specs.declared.plain.PlainDb.{PlainDb}
use Rattle.workload.specs.PlainDatabase.{with_table, table_without, row_number}
use Rattle.workload.specs.Selection.{passes}
use Rattle.workload.specs.Outcome.{value_at}
use Rattle.plain_db.proofs.TableLemmas.{with_table-twice, length-with_table}
use Rattle.plain_db.proofs.tables.take_rows_out.Goals as goal

pub without_passing-requires : goal.without_passing-requires
without_passing-requires c = rw c.exchange-table.ensures.given c.requires.numbered

pub exchange-requires : goal.exchange-requires
exchange-requires c =
    omega (arith, c.requires.is_there, ap (λ (db : PlainDb). length db.tables) c.exchange-table.ensures.left, length-with_table c.args.db.now c.args.t c.no_rows.result)

pub returns : goal.returns
returns c =
    c.exchange.ensures.left
    ∙ ap (λ db. with_table db c.args.t c.without_passing.result) c.exchange-table.ensures.left
    ∙ with_table-twice c.args.db.now c.args.t c.no_rows.result c.without_passing.result
    ∙ ap (λ table. with_table c.args.db.now c.args.t table) (
    c.without_passing.ensures
    ∙ ap (λ table. table_without table (map row_number (filter (passes value_at c.args.tests.now) table.rows))) c.exchange-table.ensures.given)
