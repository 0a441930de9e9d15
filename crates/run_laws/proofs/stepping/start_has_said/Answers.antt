use Rattle.run_laws.proofs.NextSteps.{start_has_said}
use Rattle.run_laws.proofs.stepping.start_has_said.Goals as goal

pub returns : goal.returns
returns c = start_has_said
