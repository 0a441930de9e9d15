-- The shelf's next number is the field.
use Rattle.enc_table.proofs.TableSeen.{next-seen}
use Rattle.enc_table.proofs.table.Table.next.Goals as goal

pub returns : goal.returns
returns c = next-seen _ _ _ _ _ _ _ _ c.self.view_is
