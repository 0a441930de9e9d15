use Rattle.workload_file.proofs.GrammarRun.{read_is_spelled}
use Rattle.workload_file.proofs.GrammarTaken.{read_short, spelled_read}
use Rattle.workload_file.proofs.ValidSteps.{read_is_valid}
use Rattle.workload_file.proofs.laws.workloads_are_read_as_spelled.Goals as goal

pub returns : goal.returns
returns c bytes w = (
  λ gives. record { short = read_short bytes w gives; spelled = read_is_spelled bytes w gives; valid = read_is_valid bytes w gives },
  λ says. spelled_read bytes w says,
)
