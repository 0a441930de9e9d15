use Rattle.std.proofs.Common.{ap, arith, length}
use Rattle.step_core.specs.Sittings.{IsNarrow}
use Rattle.step_core.proofs.Started.{each-at}
use Rattle.step_core.proofs.starting.widths.Goals as goal

pub overflow_cast-as_slice : goal.overflow_cast-as_slice
overflow_cast-as_slice c =
    let narrow = each-at IsNarrow c.args.tables.now c.tables.i c.index-tables-i.result c.requires c.tables-test.true in
    let long = ap length c.as_slice.ensures in
    omega (arith, long, narrow.1)
