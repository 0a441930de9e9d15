use Rattle.sql_plan.proofs.ValueRows.{codes_select_rows}
use Rattle.sql_plan.proofs.laws.codes_select_rows.Goals as goal

pub returns : goal.returns
returns c = codes_select_rows
