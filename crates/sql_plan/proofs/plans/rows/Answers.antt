use Rattle.std.proofs.Common.{◌≡◌, ◌∙◌}
use Rattle.sql_plan.proofs.Pages.{all-found}
use Rattle.sql_plan.proofs.plans.rows.Goals as goal

pub returns-in_ok-numbers-in-None : goal.returns-in_ok-numbers-in-None
returns-in_ok-numbers-in-None c =
    c.from_vec-in-None.ensures ∙ c.in_ok-numbers-in-None.ensures
    ∙ all-found c.args.table.now.shelf c.args.query.now (c.column_by.ensures.bounds c.in-None.is) (c.column_by.ensures.order c.in-None.is)
