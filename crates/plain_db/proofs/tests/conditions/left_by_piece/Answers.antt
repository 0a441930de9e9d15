use Rattle.std.proofs.Common.{rules}
use Rattle.workload.specs.Validity.{numbers_inserted}
use Rattle.plain_db.proofs.tests.conditions.left_by_piece.Goals as goal

pub returns-in-Txn : goal.returns-in-Txn
unfolding numbers_inserted
returns-in-Txn c = search rules

pub returns-in-Rebuild : goal.returns-in-Rebuild
unfolding numbers_inserted
returns-in-Rebuild c = search rules
