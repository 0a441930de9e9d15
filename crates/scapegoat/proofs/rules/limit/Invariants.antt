use Rattle.std.proofs.Common.{◌-◌}
use Rattle.scapegoat.proofs.Climbing.{Climbs}
use Rattle.scapegoat.proofs.rules.limit.Given as goal

abbrev pub invariant-climb : goal.invariant-climb
invariant-climb l = Climbs l.n l.depth l.threes l.twos

abbrev pub decreases-climb : goal.decreases-climb
decreases-climb l = 64 - l.depth
