use Rattle.enc_table.proofs.ColumnSteps.{copied_column}
use Rattle.enc_table.proofs.columns.Column.copy.Goals as goal

pub returns-in-Ok : goal.returns-in-Ok
returns-in-Ok c = λ numbers held. copied_column numbers c.args.self.now c.in-Ok.cells c.in_ok-tree.tree c.in_ok-index.index held c.in-Ok.ensures c.in_ok-tree.ensures.column c.in_ok-tree.ensures.fresh c.in_ok-index.ensures.ok
