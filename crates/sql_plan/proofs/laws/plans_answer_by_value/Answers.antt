use Rattle.sql_plan.proofs.ValuePlans.{answers-by-value}
use Rattle.sql_plan.proofs.laws.plans_answer_by_value.Goals as goal

pub returns : goal.returns
returns c = λ v t conditions is reads there. answers-by-value v t is reads conditions there
