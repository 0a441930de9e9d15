use Rattle.workload_file.proofs.TwinOnce.{one_twin_verdict}
use Rattle.workload_file.proofs.laws.twin_files_give_one_verdict.Goals as goal

pub returns : goal.returns
returns c bytes a b x y = one_twin_verdict bytes a b x y
