use Rattle.run_laws.proofs.ShownSteps.{end_is_seated}
use Rattle.run_laws.proofs.stepping.end_is_seated.Goals as goal

pub returns : goal.returns
returns c = end_is_seated
