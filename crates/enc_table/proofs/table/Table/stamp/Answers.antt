-- The stamps alone are others.
use Rattle.std.proofs.Common.{ap}
use Rattle.enc_table.specs.Seen.{with_stamps}
use Rattle.enc_table.proofs.table.Table.stamp.Goals as goal

pub returns : goal.returns
unfolding with_stamps
returns c = ap (with_stamps c.args.stamps) c.self.view_is
