use Rattle.sql_plan.specs.Plans.{passing_counts}
use Rattle.sql_plan.proofs.Choosing.{Best}
use Rattle.sql_plan.proofs.plans.fewest_at.Given as goal

abbrev pub invariant-bounds : goal.invariant-bounds
invariant-bounds l = Best (passing_counts l.table.shelf l.bounds) l.place l.best l.fewest
