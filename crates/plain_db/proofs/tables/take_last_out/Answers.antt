use Rattle.std.proofs.Common.{◌∙◌, ap, length, arith, sym}
use Rattle.std.proofs.lemmas.List.{set_past}
use Rattle.workload.specs.declared.plain.PlainDb.{PlainDb}
use Rattle.workload.specs.PlainDatabase.{with_table}
use Rattle.plain_db.specs.TakingBack.{without_last}
use Rattle.plain_db.proofs.TableLemmas.{with_table-twice, length-with_table, with_table-past}
use Rattle.plain_db.proofs.tables.take_last_out.Goals as goal

pub exchange-requires : goal.exchange-requires
exchange-requires c =
    omega (
      arith,
      c.if-t-as_slice.true,
      ap length c.as_slice.ensures,
      ap (λ (db : PlainDb). length db.tables) c.exchange-table.ensures.left,
      length-with_table c.args.db.now c.args.t c.no_rows.result,
    )

pub returns-then-t-as_slice : goal.returns-then-t-as_slice
returns-then-t-as_slice c =
    c.exchange.ensures.left
    ∙ ap (λ db. with_table db c.args.t c.without_last_row.result) c.exchange-table.ensures.left
    ∙ with_table-twice c.args.db.now c.args.t c.no_rows.result c.without_last_row.result
    ∙ ap (λ table. with_table c.args.db.now c.args.t table) (c.without_last_row.ensures ∙ ap without_last c.exchange-table.ensures.given)

pub returns-else-t-as_slice : goal.returns-else-t-as_slice
returns-else-t-as_slice c =
    sym (with_table-past c.args.db.now c.args.t _ (omega (arith, c.if-t-as_slice.false, ap length c.as_slice.ensures)))
