use Rattle.std.proofs.Common.{refl}
use Rattle.txn_core.proofs.tests.takes_row.Goals as goal

pub returns-in-Some : goal.returns-in-Some
returns-in-Some c = λ yes body. c.table_takes_row.ensures yes c.args.version.now c.in-Some.ensures.value (c.in-Some.ensures.there.0 refl) body
