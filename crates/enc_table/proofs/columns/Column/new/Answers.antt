use Rattle.std.proofs.Common.{ap, ◌≡◌, ◌∙◌, List}
use Rattle.column_index.specs.Seen.{Seen as IndexSeen}
use Rattle.ope_tree.specs.Seen.{Seen as TreeSeen}
use Rattle.enc_table.specs.declared.cell.Cell.{Cell}
use Rattle.enc_table.specs.declared.columns.Column.{Column as Stored}
use Rattle.enc_table.proofs.ColumnSteps.{made_column}
use Rattle.enc_table.proofs.columns.Column.new.Goals as goal

pub returns : goal.returns
returns c = made_column c.new.result c.new-2.result c.new-3.result c.new.ensures c.new-2.ensures c.new-3.ensures
