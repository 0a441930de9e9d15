use Rattle.workload_file.proofs.ValidSteps.{read_is_valid}
use Rattle.workload_file.proofs.laws.workloads_read_are_valid.Goals as goal

pub returns : goal.returns
returns c = read_is_valid
