use Rattle.std.proofs.Common.{◌≡◌, ◌∙◌, ap, sym, ℕ, Bool, Option}
use Rattle.mope_base.specs.declared.numbers.ColNo.{ColNo}
use Rattle.sql_plan.specs.Walks.{key_by, key_of}
use Rattle.sql_plan.proofs.ordering.key_of.Goals as goal

pub returns-in-Some : goal.returns-in-Some
unfolding key_of
returns-in-Some c =
    c.key_by.ensures ∙ ap (key_by c.in-Some.down) c.code_of.ensures
    ∙ sym (ap (λ (o : Option (ColNo × Bool)). key_of c.args.table.now.shelf o c.args.row) c.in-Some.is)

pub returns-in-None : goal.returns-in-None
unfolding key_of
returns-in-None c = sym (ap (λ (o : Option (ColNo × Bool)). key_of c.args.table.now.shelf o c.args.row) c.in-None.is)
