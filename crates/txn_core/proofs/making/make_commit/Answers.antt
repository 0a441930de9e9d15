use Rattle.std.proofs.Common.{List, ap, ap₂, ◌∙◌}
use Rattle.versions.specs.declared.op.Op.{Op}
use Rattle.versions.specs.declared.turn.TurnKind.TheVariants.{Committed}
use Rattle.versions.specs.Databases.{Database}
use Rattle.versions.specs.Operations.{with_ops}
use Rattle.txn_core.proofs.making.make_commit.Goals as goal

pub returns-clause-number : goal.returns-clause-number
unfolding with_ops
returns-clause-number c = c.number-number.ensures.value ∙ ap (λ (d : Database). d.number) c.in_ok-version.ensures.version

pub returns-clause-what : goal.returns-clause-what
unfolding with_ops
returns-clause-what c = ap₂ (λ n (ops : List Op). Committed n ops) (c.number-number.ensures.value ∙ ap (λ (d : Database). d.number) c.in_ok-version.ensures.version) c.in_ok-ops.ensures.copy
