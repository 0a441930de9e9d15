use Rattle.std.proofs.Common.{◌<◌, ◌+◌, ◌-◌, ◌/◌, ◌∙◌, sym, arith}
use Rattle.cow_pages.proofs.Halving.{first_of_run, before_cut, after_cut}
use Rattle.cow_pages.proofs.paged.Paged.partition_point.Goals as goal

pub halves-preserved-then-is_before : goal.halves-preserved-then-is_before
halves-preserved-then-is_before g c =
    let lt : c.halves.low + (c.halves.high - c.halves.low) / 2 < c.halves.high = omega arith in
    before_cut _ c.args.self.now c.halves.low c.halves.high (c.halves.low + (c.halves.high - c.halves.low) / 2) c.index-run_at-0.result c.requires c.halves.invariant lt
    (c.index-run_at-0.is ∙ first_of_run c.args.self.now c.run_at.result.now (c.halves.low + (c.halves.high - c.halves.low) / 2) c.index-run_at-0.result c.run_at.ensures.run (c.run_at.ensures.some (omega (arith, c.halves.invariant.within))))
    (sym c.is_before.ensures ∙ c.if-is_before.true)

pub halves-preserved : goal.halves-preserved
halves-preserved g c =
    let lt : c.halves.low + (c.halves.high - c.halves.low) / 2 < c.halves.high = omega arith in
    after_cut _ c.args.self.now c.halves.low c.halves.high (c.halves.low + (c.halves.high - c.halves.low) / 2) c.index-run_at-0.result c.requires c.halves.invariant (omega arith) lt
    (c.index-run_at-0.is ∙ first_of_run c.args.self.now c.run_at.result.now (c.halves.low + (c.halves.high - c.halves.low) / 2) c.index-run_at-0.result c.run_at.ensures.run (c.run_at.ensures.some (omega (arith, c.halves.invariant.within))))
    (sym c.is_before.ensures ∙ c.if-is_before.false)
