use Rattle.std.proofs.Common.{◌≡◌, true, subst}
use Rattle.versions.specs.Databases.{Database}
use Rattle.versions.specs.Operations.{HasColumn}
use Rattle.txn_core.proofs.Pasts.{past_later}
use Rattle.txn_core.proofs.tests.rebuild.Goals as goal

pub install-requires-clause-there : goal.install-requires-clause-there
install-requires-clause-there c =
    let yes : c.has_column.result ≡ true = search c.if-not-has_column.false in
    subst (λ (d : Database). HasColumn 0 0 d) c.version.ensures (c.has_column.ensures yes)

pub returns : goal.returns
returns c = record { later = λ past h. past_later c.args.state.now c.install.new.self _ past c.in_ok-installed.ensures.first c.in_ok-installed.ensures.turn h }
