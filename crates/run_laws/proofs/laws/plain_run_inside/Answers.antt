use Rattle.run_laws.proofs.PlainInside.{plain_run_inside}
use Rattle.run_laws.proofs.laws.plain_run_inside.Goals as goal

pub returns : goal.returns
returns c = plain_run_inside
