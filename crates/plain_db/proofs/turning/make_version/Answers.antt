use Rattle.std.proofs.Common.{◌∙◌, ap, ◌+◌, arith}
use Rattle.std.proofs.lemmas.Result.{on_ok_weaker}
use Rattle.plain_db.specs.Running.{written_by}
use Rattle.plain_db.proofs.TurningLemmas.{committed-by}
use Rattle.plain_db.proofs.turning.make_version.Goals as goal

pub returns : goal.returns
returns c =
    on_ok_weaker c.end_txn.result (λ done.
    committed-by c.args.state.now c.end_txn.new.state c.args.s c.args.k c.args.ended (c.args.state.now.version + 1) c.args.base c.redo.new.db c.stamp.new.written c.args.work _
    (omega arith) c.in_ok-redo.ensures
    (c.stamp.ensures ∙ ap (λ l. written_by l (c.args.state.now.version + 1) c.args.state.now.written) c.as_slice.ensures) done)
    c.end_txn.ensures
