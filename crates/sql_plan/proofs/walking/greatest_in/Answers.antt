use Rattle.std.proofs.Common.{◌≡◌, ◌∙◌, sym, arith}
use Rattle.sql_plan.proofs.Answering.{greatest-none}
use Rattle.sql_plan.proofs.Extremes.{last-top, start-low, greatest-first, greatest-there}
use Rattle.sql_plan.proofs.walking.greatest_in.Goals as goal

pub returns-in_default : goal.returns-in_default
returns-in_default c = greatest-none c.args.table.now.shelf c.args.bounds.now c.args.index.now.entries c.in_default.ensures

pub first_from-requires-clause-order : goal.first_from-requires-clause-order
first_from-requires-clause-order c =
    let l = c.in-Some.ensures in
    omega (arith, l.inside, start-low c.args.table.now.shelf c.args.bounds.now c.args.index.now.entries c.args.end c.range-start.result.0 c.range-start.result.1 c.in-Some.last l c.range-start.ensures.parts)

pub returns-in-Some-first_from : goal.returns-in-Some-first_from
returns-in-Some-first_from c =
    let l = c.in-Some.ensures in
    sym (greatest-first c.args.table.now.shelf c.args.bounds.now c.args.index.now.entries c.args.end c.range-start.result.0 c.range-start.result.1 c.in-Some.last l c.range-start.ensures.parts c.requires.ordered
    (last-top c.args.table.now.shelf c.args.bounds.now c.args.index.now.entries c.args.end c.range-start.result.0 c.range-start.result.1 c.in-Some.last l c.range-start.ensures.parts c.requires.codes)
    c.in-Some-first_from.entry (sym c.first_from.ensures ∙ c.in-Some-first_from.is))

pub returns-in-None : goal.returns-in-None
returns-in-None c =
    let l = c.in-Some.ensures in
    absurd (greatest-there c.args.table.now.shelf c.args.bounds.now c.args.index.now.entries c.args.end c.range-start.result.0 c.range-start.result.1 c.in-Some.last l c.range-start.ensures.parts (sym c.first_from.ensures ∙ c.in-None.is))
