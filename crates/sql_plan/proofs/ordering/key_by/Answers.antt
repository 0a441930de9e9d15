use Rattle.std.proofs.Common.{◌≡◌, ap, sym, Bool}
use Rattle.sql_plan.specs.Walks.{key_by}
use Rattle.sql_plan.proofs.ordering.key_by.Goals as goal

pub returns-then-down : goal.returns-then-down
unfolding key_by
returns-then-down c = sym (ap (λ (b : Bool). key_by b c.args.code) c.if-down.true)

pub returns-else-down : goal.returns-else-down
unfolding key_by
returns-else-down c = sym (ap (λ (b : Bool). key_by b c.args.code) c.if-down.false)
