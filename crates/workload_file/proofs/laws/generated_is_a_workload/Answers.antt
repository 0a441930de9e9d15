use Rattle.workload_file.proofs.GeneratedWhole.{generated_spells}
use Rattle.workload_file.proofs.laws.generated_is_a_workload.Goals as goal

pub returns : goal.returns
returns c number sessions transactions few less = generated_spells number sessions transactions few less
