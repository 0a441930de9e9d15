use Rattle.sql_plan.proofs.ValuePlans.{standing_reads}
use Rattle.sql_plan.proofs.laws.standing_reads.Goals as goal

pub returns : goal.returns
returns g c = standing_reads
