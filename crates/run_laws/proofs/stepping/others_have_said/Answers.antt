use Rattle.run_laws.proofs.NextSteps.{others_have_said}
use Rattle.run_laws.proofs.stepping.others_have_said.Goals as goal

pub returns : goal.returns
returns c = others_have_said
