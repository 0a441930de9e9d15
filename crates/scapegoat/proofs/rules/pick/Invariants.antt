use Rattle.std.proofs.Common.{◌≡◌}
use Rattle.scapegoat.proofs.Climbing.{Passes}
use Rattle.scapegoat.proofs.rules.pick.Given as goal

abbrev pub invariant-ancestors : goal.invariant-ancestors
invariant-ancestors l = (l.above ≡ l.size-index) × Passes l.sizes l.above l.threes l.twos
