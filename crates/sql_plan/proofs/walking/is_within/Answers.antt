use Rattle.std.proofs.Common.{◌≡◌, ap, ◌∙◌, sym, refl, ◌+◌, Bool, ◌&&◌, List, drop}
use Rattle.std.proofs.Math.ListN.{drop_of_length-le}
use Rattle.sql_plan.specs.declared.bounds.Bound.{Bound}
use Rattle.sql_plan.specs.Walks.{is_within}
use Rattle.sql_plan.proofs.SpanLemmas.{is_within-nothing}
use Rattle.sql_plan.proofs.Steps.{within-by}
use Rattle.sql_plan.proofs.walking.is_within.Goals as goal

pub bounds-init : goal.bounds-init
bounds-init c = refl

pub bounds-preserved : goal.bounds-preserved
bounds-preserved c =
    c.bounds.invariant
    ∙ within-by c.args.table.now.shelf c.args.bounds.now c.bounds.bound-index c.args.row c.code_of.result c.holds.result _ c.bounds-test.true c.code_of.ensures c.holds.ensures
    ∙ ap (λ (b : Bool). b && is_within c.args.table.now.shelf (drop (c.bounds.bound-index + 1) c.args.bounds.now) c.args.row) c.if-not-holds.false

pub returns-then-not-holds : goal.returns-then-not-holds
returns-then-not-holds c =
    sym (c.bounds.invariant
    ∙ within-by c.args.table.now.shelf c.args.bounds.now c.bounds.bound-index c.args.row c.code_of.result c.holds.result _ c.bounds-test.true c.code_of.ensures c.holds.ensures
    ∙ ap (λ (b : Bool). b && is_within c.args.table.now.shelf (drop (c.bounds.bound-index + 1) c.args.bounds.now) c.args.row) c.if-not-holds.true)

pub returns : goal.returns
returns c =
    sym (c.bounds.invariant
    ∙ ap (λ (bs : List Bound). is_within c.args.table.now.shelf bs c.args.row) (drop_of_length-le c.args.bounds.now c.bounds-test.false)
    ∙ is_within-nothing c.args.table.now.shelf c.args.row)
