use Rattle.std.proofs.Common.{◌∙◌, ap, length, arith, sym}
use Rattle.workload.specs.declared.plain.PlainDb.{PlainDb}
use Rattle.workload.specs.PlainDatabase.{with_table}
use Rattle.plain_db.specs.TakingBack.{with_rows}
use Rattle.plain_db.proofs.TableLemmas.{with_table-twice, length-with_table, with_table-past}
use Rattle.plain_db.proofs.tables.put_rows_back.Goals as goal

pub exchange-requires : goal.exchange-requires
exchange-requires c =
    omega (
      arith,
      c.if-t-as_slice.true,
      ap length c.as_slice.ensures,
      ap (λ (db : PlainDb). length db.tables) c.exchange-table.ensures.left,
      length-with_table c.args.db.now c.args.t c.no_rows.result,
    )

pub returns-in_ok-with_rows_back : goal.returns-in_ok-with_rows_back
returns-in_ok-with_rows_back c =
    c.exchange.ensures.left
    ∙ ap (λ db. with_table db c.args.t c.in_ok-with_rows_back.field-0) c.exchange-table.ensures.left
    ∙ with_table-twice c.args.db.now c.args.t c.no_rows.result c.in_ok-with_rows_back.field-0
    ∙ ap (λ table. with_table c.args.db.now c.args.t table)
    (c.in_ok-with_rows_back.ensures ∙ ap (λ table. with_rows table c.args.back) c.exchange-table.ensures.given)

pub returns-else-t-as_slice : goal.returns-else-t-as_slice
returns-else-t-as_slice c =
    sym (with_table-past c.args.db.now c.args.t _ (omega (arith, c.if-t-as_slice.false, ap length c.as_slice.ensures)))
