use Rattle.workload_file.specs.Shapes.{cond_shape}
use Rattle.workload_file.proofs.ShapeLemmas.{mapped_more, mapped_end}
use Rattle.workload_file.proofs.shapes.conds_shape.Goals as goal

pub conds-preserved : goal.conds-preserved
conds-preserved c =
    mapped_more cond_shape c.conds.shapes c.push.new.self _ c.args.conds.now c.conds.cond-index c.cond-item.result c.in_ok-cond_shape.field-0 c.conds-test.true c.cond-item.is c.in_ok-cond_shape.ensures c.in_ok-push.ensures.ok
    c.conds.invariant

pub returns : goal.returns
returns c = mapped_end cond_shape c.conds.shapes _ c.args.conds.now c.conds.cond-index c.conds-test.false c.conds.invariant
