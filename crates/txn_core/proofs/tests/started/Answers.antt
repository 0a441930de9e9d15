use Rattle.std.proofs.Common.{◌≡◌, ap, arith}
use Rattle.versions.specs.Databases.{Database, first_database}
use Rattle.txn_core.proofs.tests.started.Goals as goal

pub new-requires : goal.new-requires
unfolding first_database
new-requires c = let n : c.in_ok-first.first.number ≡ 0 = ap (λ (d : Database). d.number) c.in_ok-first.ensures in omega (arith, n)
