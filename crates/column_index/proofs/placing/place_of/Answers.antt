use Rattle.column_index.proofs.Points.{parted_entries}
use Rattle.column_index.proofs.placing.place_of.Goals as goal

pub partition_point-requires : goal.partition_point-requires
partition_point-requires c = parted_entries c.args.entries.now c.args.entry c.requires
