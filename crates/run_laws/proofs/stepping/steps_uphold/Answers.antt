use Rattle.run_laws.proofs.PaceOfRun.{steps_uphold}
use Rattle.run_laws.proofs.stepping.steps_uphold.Goals as goal

pub returns : goal.returns
returns c = steps_uphold
