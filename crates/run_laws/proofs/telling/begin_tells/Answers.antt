use Rattle.run_laws.proofs.PaceOfRun.{begin_tells}
use Rattle.run_laws.proofs.telling.begin_tells.Goals as goal

pub returns : goal.returns
returns c = begin_tells
