use Rattle.std.proofs.Common.{rules, ◌∙◌, ap, not}
use Rattle.std.proofs.lemmas.Fn.{filter_same}
use Rattle.workload.specs.declared.plain.PlainTable.{PlainTable}
use Rattle.workload.specs.PlainDatabase.{table_without}
use Rattle.workload.specs.Selection.{passes}
use Rattle.workload.specs.Outcome.{value_at}
use Rattle.plain_db.proofs.TableLemmas.{without-passing}
use Rattle.plain_db.proofs.tables.without_passing.Goals as goal

pub returns : goal.returns
unfolding table_without
returns c =
    ap (λ rows. let t : PlainTable = record { rows = rows; next = c.args.table.next } in t) (
    c.from_vec.ensures
    ∙ filter_same _ (λ row. not (passes value_at c.args.tests.now row)) _ (λ x b f' k. search rules) _ _ c.retain.ensures.filtered
    ∙ rw c.into_vec-rows.ensures (without-passing (passes value_at c.args.tests.now) 0 c.args.table.next c.args.table.rows c.requires))
