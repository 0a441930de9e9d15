-- The copy tells the same shelf.
use Rattle.std.proofs.Common.{◌∙◌}
use Rattle.mope_base.specs.Modes.{is_same_time}
use Rattle.enc_table.proofs.TableSeen.{copied-fields, copied-seen}
use Rattle.enc_table.proofs.table.Table.copy.Goals as goal

pub invariant_of-result : goal.invariant_of-result
invariant_of-result c =
    let i = c.self.inside in
    copied-fields (is_same_time i.mode) i.limit i.stamps i.next i.rows.numbers i.rows.columns.items i.spent c.in_ok-rows.rows.numbers c.in_ok-rows.rows.columns.items
    c.self.invariant c.if-self.false c.in_ok-rows.ensures.numbers c.in_ok-rows.ensures.many c.in_ok-rows.ensures.columns

pub returns-clause-same : goal.returns-clause-same
returns-clause-same c =
    let i = c.self.inside in
    copied-seen (is_same_time i.mode) i.limit i.stamps i.next i.rows.numbers i.rows.columns.items i.spent c.in_ok-rows.rows.numbers c.in_ok-rows.rows.columns.items
    c.if-self.false c.in_ok-rows.ensures.numbers c.in_ok-rows.ensures.many c.in_ok-rows.ensures.columns
    ∙ c.self.view_is
