use Rattle.std.proofs.Common.{refl, ◌∙◌, sym}
use Rattle.txn_core.proofs.Pasts.{column_of}
use Rattle.txn_core.proofs.tests.has_column.Goals as goal

pub returns-in-Some : goal.returns-in-Some
returns-in-Some c = λ yes. column_of c.in-Some.table.now (c.tree.ensures.there.0 (sym c.is_some.ensures ∙ yes)) c.args.version.now c.in-Some.ensures.value (c.in-Some.ensures.there.0 refl)
