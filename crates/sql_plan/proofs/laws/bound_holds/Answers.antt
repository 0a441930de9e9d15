use Rattle.sql_plan.proofs.TestBounds.{bound_holds}
use Rattle.sql_plan.proofs.laws.bound_holds.Goals as goal

pub returns : goal.returns
returns c = bound_holds
