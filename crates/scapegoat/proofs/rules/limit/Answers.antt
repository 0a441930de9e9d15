use Rattle.std.proofs.Common.{arith}
use Rattle.scapegoat.proofs.Climbing.{Climbs-next, Climbs-short, Climbs-fit, Climbs-end}
use Rattle.scapegoat.proofs.rules.limit.Goals as goal

pub overflow_mul-threes : goal.overflow_mul-threes
overflow_mul-threes c = omega (arith, Climbs-fit c.args.n c.climb.depth c.climb.threes c.climb.twos c.requires c.climb.invariant)

pub overflow_mul-twos-in-climb : goal.overflow_mul-twos-in-climb
overflow_mul-twos-in-climb c = omega (arith, Climbs-fit c.args.n c.climb.depth c.climb.threes c.climb.twos c.requires c.climb.invariant)

pub climb-smaller : goal.climb-smaller
climb-smaller c = omega (arith, Climbs-short c.args.n c.climb.depth c.climb.threes c.climb.twos c.requires c.climb.invariant)

pub climb-preserved : goal.climb-preserved
climb-preserved c = Climbs-next c.args.n c.climb.depth c.climb.threes c.climb.twos c.climb.invariant c.climb-test.true

pub returns : goal.returns
returns c = Climbs-end c.args.n c.climb.depth c.climb.threes c.climb.twos c.climb.invariant c.climb-test.false
