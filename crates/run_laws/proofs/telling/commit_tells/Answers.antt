use Rattle.run_laws.proofs.PaceOfRun.{commit_tells}
use Rattle.run_laws.proofs.telling.commit_tells.Goals as goal

pub returns : goal.returns
returns c = commit_tells
