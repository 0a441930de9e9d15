use Rattle.plain_db.proofs.CommittingLemmas.{written-more, written-all}
use Rattle.plain_db.proofs.committing.stamp.Goals as goal

pub ops-preserved : goal.ops-preserved
ops-preserved c =
    written-more c.args.ops.now c.args.number c.ops.written c.stamp_one.new.written c.args.written.now c.ops.i _ c.ops-test.true c.ops.invariant c.stamp_one.ensures

pub returns : goal.returns
returns c = written-all c.args.ops.now c.args.number c.ops.written c.args.written.now c.ops.i c.ops-test.false c.ops.invariant
