use Rattle.std.proofs.Common.{◌+◌, arith}
use Rattle.std.proofs.lemmas.Result.{on_ok_weaker}
use Rattle.plain_db.specs.Running.{moved_state}
use Rattle.plain_db.proofs.TurningLemmas.{ended-by}
use Rattle.plain_db.proofs.turning.end_txn.Goals as goal

pub returns : goal.returns
unfolding moved_state
returns c =
    on_ok_weaker c.with_done.result (λ done.
    ended-by c.args.state.now c.moved.new.state c.with_done.new.state c.args.s c.args.k c.args.ended (c.args.ended + 1) c.args.base c.args.end c.args.answers
    (omega arith) c.in_ok-moved.ensures done)
    c.with_done.ensures
