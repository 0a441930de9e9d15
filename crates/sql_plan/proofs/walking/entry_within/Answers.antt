use Rattle.std.proofs.Common.{◌≡◌, ◌∙◌, sym}
use Rattle.sql_plan.proofs.Steps.{within-yes, within-no, within-none}
use Rattle.sql_plan.proofs.walking.entry_within.Goals as goal

pub returns-then-is_within : goal.returns-then-is_within
returns-then-is_within c = within-yes c.args.table.now.shelf c.args.bounds.now _ c.in-Some.entry (sym c.in-Some.ensures) (sym c.is_within.ensures ∙ c.if-is_within.true)

pub returns-else-is_within : goal.returns-else-is_within
returns-else-is_within c = within-no c.args.table.now.shelf c.args.bounds.now _ c.in-Some.entry (sym c.in-Some.ensures) (sym c.is_within.ensures ∙ c.if-is_within.false)

pub returns-in-None : goal.returns-in-None
returns-in-None c = within-none c.args.table.now.shelf c.args.bounds.now _ (sym c.in-None.ensures)
