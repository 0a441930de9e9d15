use Rattle.std.proofs.Common.{refl}
use Rattle.workload.specs.History.{effect_on}
use Rattle.plain_db.specs.Running.{PieceFits}
use Rattle.plain_db.proofs.trying.redo_piece.Goals as goal

pub redo_all-requires-clause-fit : goal.redo_all-requires-clause-fit
unfolding PieceFits
redo_all-requires-clause-fit c = rw c.as_slice.ensures (rw c.in-Txn.is at c.requires.fit)

pub returns-in-Txn : goal.returns-in-Txn
unfolding effect_on
returns-in-Txn c = rw c.in-Txn.is (rw c.as_slice.ensures at c.redo_all.ensures)

pub returns-in-Rebuild : goal.returns-in-Rebuild
unfolding effect_on
returns-in-Rebuild c = rw c.in-Rebuild.is refl
