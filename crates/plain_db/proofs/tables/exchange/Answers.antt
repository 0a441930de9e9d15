use Rattle.std.proofs.Common.{◌∙◌, ap, sym, set}
use Rattle.std.proofs.lemmas.List.{get_or_read}
use Rattle.workload.specs.declared.plain.PlainDb.{PlainDb}
use Rattle.workload.specs.PlainDatabase.{table_of, with_table, empty_table}
use Rattle.plain_db.proofs.tables.exchange.Goals as goal

pub returns-clause-given : goal.returns-clause-given
unfolding table_of
returns-clause-given c =
    c.replace-given.ensures.value
    ∙ get_or_read c.args.db.now.tables c.args.t.0 c.index_mut.result.now c.requires
    (rw (sym c.replace.ensures.value, sym c.into_vec-tables.ensures) c.index_mut.ensures.value) empty_table

pub returns-clause-left : goal.returns-clause-left
unfolding with_table
returns-clause-left c =
    ap (λ tables. let d : PlainDb = record { tables = tables } in d) (
    c.from_vec.ensures
    ∙ ap (λ l. set l c.args.t.0 c.replace-given.new.dest) (c.into_vec-tables.ensures ∙ c.replace.ensures.value)
    ∙ ap (λ table. set c.args.db.now.tables c.args.t.0 table) c.replace-given.ensures.after)
