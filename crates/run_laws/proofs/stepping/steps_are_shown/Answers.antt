use Rattle.run_laws.proofs.ShownSteps.{steps_are_shown}
use Rattle.run_laws.proofs.stepping.steps_are_shown.Goals as goal

pub returns : goal.returns
returns c = steps_are_shown
