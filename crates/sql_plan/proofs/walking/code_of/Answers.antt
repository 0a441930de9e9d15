use Rattle.std.proofs.Common.{◌≡◌, ◌∙◌, ap, ℕ, Option}
use Rattle.std.specs.Option.{unwrap_or}
use Rattle.sql_plan.specs.Walks.{by_number}
use Rattle.sql_plan.proofs.Extremes.{greatest-there}
use Rattle.sql_plan.proofs.EntryOrder.{ordered-is-sorted}
use Rattle.sql_plan.proofs.walking.code_of.Goals as goal

pub returns : goal.returns
unfolding by_number
returns c = c.unwrap_or.ensures ∙ ap (λ (o : Option ℕ). unwrap_or o 0) c.code.ensures
