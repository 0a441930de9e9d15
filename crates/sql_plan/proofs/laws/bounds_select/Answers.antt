use Rattle.sql_plan.proofs.TestBounds.{bounds_select}
use Rattle.sql_plan.proofs.laws.bounds_select.Goals as goal

pub returns : goal.returns
returns c = bounds_select
