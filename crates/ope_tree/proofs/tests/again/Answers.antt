use Rattle.std.proofs.Common.{◌%◌, ℕ, Option, ap, ◌∙◌, arith}
use Rattle.std.specs.Option.{option_map}
use Rattle.mope_base.specs.declared.body.Body.{Body}
use Rattle.tree_model.specs.Trees.{IsPlaceOf}
use Rattle.ope_tree.specs.Conditions.{paired}
use Rattle.ope_tree.proofs.InsertionSteps.{count_there}
use Rattle.ope_tree.proofs.tests.again.Goals as goal

pub insert_at-requires-clause-is_place : goal.insert_at-requires-clause-is_place
unfolding IsPlaceOf
insert_at-requires-clause-is_place c = omega (arith, c.len-len.ensures.value, c.from.ensures)

pub insert_at-requires-clause-room : goal.insert_at-requires-clause-room
insert_at-requires-clause-room c =
    let known = c.item.ensures ∙ ap (λ (o : Option (Body × ℕ)). option_map paired o) c.in-Some.is in
    let here = count_there c.args.tree.now.column (c.args.number % c.from.result) _ known in
    omega (arith, here, c.in-Some.count-is)
