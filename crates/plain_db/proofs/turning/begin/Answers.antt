use Rattle.std.proofs.Common.{sym, length}
use Rattle.std.proofs.lemmas.Result.{on_ok_weaker}
use Rattle.plain_db.specs.Running.{BeganBy, PieceFits, moved_state}
use Rattle.plain_db.proofs.TurningLemmas.{began-piece, began-none, piece-fits}
use Rattle.plain_db.proofs.turning.begin.Goals as goal

pub begin_txn-requires-clause-fit : goal.begin_txn-requires-clause-fit
unfolding PieceFits
begin_txn-requires-clause-fit c =
    rw c.as_slice.ensures
    (rw c.in-Txn.is at (piece-fits (length c.args.state.now.current.tables) c.args.script.now c.args.ended c.index-script-ended.result c.requires.fit c.if-ended-script.true c.index-script-ended.is))

pub returns-in-Txn : goal.returns-in-Txn
unfolding BeganBy
returns-in-Txn c =
    on_ok_weaker c.begin_txn.result (λ begun.
    began-piece c.args.script.now c.args.state.now c.begin_txn.new.state c.args.s c.args.k c.args.ended c.index-script-ended.result c.index-script-ended.result c.if-ended-script.true
    c.index-script-ended.is (rw (c.in-Txn.is, sym c.as_slice.ensures) begun))
    c.begin_txn.ensures

pub returns-in-Rebuild : goal.returns-in-Rebuild
unfolding BeganBy moved_state
returns-in-Rebuild c =
    on_ok_weaker c.moved.result (λ begun.
    began-piece c.args.script.now c.args.state.now c.moved.new.state c.args.s c.args.k c.args.ended c.index-script-ended.result c.index-script-ended.result c.if-ended-script.true
    c.index-script-ended.is (rw c.in-Rebuild.is begun))
    c.moved.ensures

pub returns-else-ended-script : goal.returns-else-ended-script
returns-else-ended-script c = began-none c.args.script.now c.args.state.now c.args.s c.args.k c.args.ended c.if-ended-script.false
