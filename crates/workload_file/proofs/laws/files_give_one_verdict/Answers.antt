use Rattle.workload_file.proofs.OneVerdict.{one_verdict}
use Rattle.workload_file.proofs.laws.files_give_one_verdict.Goals as goal

pub returns : goal.returns
returns c = one_verdict
