use Rattle.plain_db.proofs.ConditionLemmas.{txn-valid}
use Rattle.plain_db.proofs.tests.conditions.is_valid_piece.Goals as goal

pub returns-then-as_slice : goal.returns-then-as_slice
returns-then-as_slice c = λ h.
    txn-valid c.args.tables.now c.args.piece.now _ _ _ _ c.in-Txn.is c.as_slice.ensures c.as_slice-then-as_slice.ensures c.if-as_slice.true
    (c.are_valid_acts.ensures h)
