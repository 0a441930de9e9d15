use Rattle.std.proofs.Common.{ℕ, Option, ap, ◌∙◌, arith}
use Rattle.std.specs.Option.{option_map}
use Rattle.mope_base.specs.declared.body.Body.{Body}
use Rattle.mope_base.specs.Modes.{is_same_time}
use Rattle.ope_tree.specs.Conditions.{paired}
use Rattle.ope_tree.proofs.InsertionSteps.{count_there}
use Rattle.summary.proofs.tests.take.Goals as goal

pub drop_one-requires-clause-has_row : goal.drop_one-requires-clause-has_row
drop_one-requires-clause-has_row c =
    let known = c.item.ensures ∙ ap (λ (o : Option (Body × ℕ)). option_map paired o) c.in-Some.is in
    let here = count_there c.args.tree.now.column c.args.rank _ known in
    omega (arith, here, c.in-Some.count-is, c.if-count-eq0.false)

-- ordinary mode
pub returns-clause-column : goal.returns-clause-column
unfolding is_same_time
returns-clause-column c = c.drop_one.ensures.column

pub returns-clause-change : goal.returns-clause-change
unfolding is_same_time
returns-clause-change c = c.drop_one.ensures.change
