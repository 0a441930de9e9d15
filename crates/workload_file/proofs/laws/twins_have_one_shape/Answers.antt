use Rattle.workload_file.proofs.ShapedRuns.{twins_shape}
use Rattle.workload_file.proofs.laws.twins_have_one_shape.Goals as goal

pub returns : goal.returns
returns c = twins_shape
