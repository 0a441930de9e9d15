-- No rows and no items are left.
use Rattle.std.proofs.Common.{ap, ◌∙◌}
use Rattle.mope_base.specs.Modes.{is_same_time}
use Rattle.enc_table.specs.Seen.{spent_table}
use Rattle.enc_table.proofs.TableSeen.{spent-fields, spent-seen}
use Rattle.enc_table.proofs.table.Table.spend.Goals as goal

pub invariant_of-self : goal.invariant_of-self
invariant_of-self c =
    let i = c.self.inside in
    spent-fields (is_same_time i.mode) i.limit i.stamps i.next i.rows.numbers i.rows.columns.items i.spent c.clear.new.self.numbers c.clear.new.self.columns.items c.self.invariant c.clear.ensures.numbers c.clear.ensures.columns

pub returns : goal.returns
returns c =
    let i = c.self.inside in
    spent-seen (is_same_time i.mode) i.limit i.stamps i.next i.rows.numbers i.rows.columns.items i.spent c.clear.new.self.numbers c.clear.new.self.columns.items c.clear.ensures.numbers c.clear.ensures.columns
    ∙ ap spent_table c.self.view_is
