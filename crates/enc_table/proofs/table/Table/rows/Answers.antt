-- There are as many rows as numbers.
use Rattle.std.proofs.Common.{◌∙◌}
use Rattle.enc_table.proofs.TableSeen.{many-seen}
use Rattle.enc_table.proofs.table.Table.rows.Goals as goal

pub returns-clause-value : goal.returns-clause-value
returns-clause-value c = c.len.ensures ∙ many-seen _ _ _ _ _ _ _ _ c.self.invariant c.self.view_is
