use Rattle.std.proofs.Common.{◌≡◌, ◌∙◌, ap, sym, ℕ, List, Option, refl, arith}
use Rattle.std.proofs.lemmas.List.{take_all}
use Rattle.workload.specs.Selection.{first_of}
use Rattle.sql_plan.proofs.ordering.kept_of.Goals as goal

pub returns-in-Some-clause-cut : goal.returns-in-Some-clause-cut
unfolding first_of
returns-in-Some-clause-cut c = λ xs all. sym (ap (λ (l : Option ℕ). first_of l xs) c.in-Some.is)

pub returns-in_default-clause-cut : goal.returns-in_default-clause-cut
unfolding first_of
returns-in_default-clause-cut c = λ xs all.
    take_all c.args.count xs (omega arith)
    ∙ sym (ap (λ (l : Option ℕ). first_of l xs) c.in-Some.is ∙ take_all c.in-Some.limit xs (omega (arith, c.if-limit-count.false)))

pub returns-in_default-2-clause-cut : goal.returns-in_default-2-clause-cut
unfolding first_of
returns-in_default-2-clause-cut c = λ xs all. take_all c.args.count xs (omega arith) ∙ sym (ap (λ (l : Option ℕ). first_of l xs) c.in_default.is)
