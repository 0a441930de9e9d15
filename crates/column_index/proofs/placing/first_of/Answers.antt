use Rattle.column_index.proofs.Points.{parted_codes, point_below}
use Rattle.column_index.proofs.placing.first_of.Goals as goal

pub partition_point-requires : goal.partition_point-requires
partition_point-requires c = parted_codes c.args.entries.now c.args.code c.requires

pub returns : goal.returns
returns c = point_below c.args.code c.args.entries.now c.partition_point.result c.partition_point.ensures.bound c.partition_point.ensures.point
