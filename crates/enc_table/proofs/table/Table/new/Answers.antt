-- All columns are empty.
use Rattle.enc_table.specs.Seen.{no_stamps}
use Rattle.enc_table.proofs.TableSeen.{new-fields, new-seen}
use Rattle.mope_base.specs.Modes.{is_same_time}
use Rattle.enc_table.proofs.table.Table.new.Goals as goal

pub invariant_of-result : goal.invariant_of-result
unfolding no_stamps
invariant_of-result c =
    new-fields (is_same_time c.args.mode) c.args.limit c.args.columns c.in_ok-new.field-0.numbers c.in_ok-new.field-0.columns.items c.requires.low c.requires.some c.requires.narrow c.in_ok-new.ensures.numbers c.in_ok-new.ensures.columns

pub returns : goal.returns
unfolding no_stamps
returns c = new-seen (is_same_time c.args.mode) c.args.limit c.args.columns c.in_ok-new.field-0.numbers c.in_ok-new.field-0.columns.items c.in_ok-new.ensures.numbers c.in_ok-new.ensures.columns
