use Rattle.run_laws.proofs.PaceOfRun.{install_tells}
use Rattle.run_laws.proofs.telling.install_tells.Goals as goal

pub returns : goal.returns
returns c = install_tells
