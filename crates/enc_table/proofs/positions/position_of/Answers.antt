use Rattle.enc_table.proofs.NumberRows.{parted_numbers, absent_at_point}
use Rattle.enc_table.proofs.positions.position_of.Goals as goal

pub partition_point-found-requires : goal.partition_point-found-requires
partition_point-found-requires c = parted_numbers c.args.numbers.now c.args.number c.requires

pub returns-else-stands_at-2 : goal.returns-else-stands_at-2
returns-else-stands_at-2 c = absent_at_point c.args.numbers.now c.args.number c.partition_point-found.result c.requires c.partition_point-found.ensures.bound c.partition_point-found.ensures.point (c.stands_at-2.ensures.not_there c.if-stands_at-2.false)
