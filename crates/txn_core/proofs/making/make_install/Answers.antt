use Rattle.std.proofs.Common.{ap, ◌∙◌}
use Rattle.versions.specs.declared.turn.TurnKind.TheVariants.{Installed}
use Rattle.versions.specs.Databases.{Database}
use Rattle.versions.specs.Operations.{with_install}
use Rattle.txn_core.proofs.making.make_install.Goals as goal

pub returns-clause-number : goal.returns-clause-number
unfolding with_install
returns-clause-number c = c.number-number.ensures.value ∙ ap (λ (d : Database). d.number) c.in_ok-version.ensures.version

pub returns-clause-what : goal.returns-clause-what
unfolding with_install
returns-clause-what c = ap (λ n. Installed n c.args.table c.args.column) (c.number-number.ensures.value ∙ ap (λ (d : Database). d.number) c.in_ok-version.ensures.version)
