use Rattle.std.proofs.Common.{◌≡◌, map, flat_map}
use Rattle.proxy.specs.declared.outcomes.Finished.{Finished}
use Rattle.mope_top.proofs.replay.parted.Given as goal

abbrev pub invariant-scripts : goal.invariant-scripts
invariant-scripts l = (l.txns.items ≡ flat_map (λ (f : Finished). f.txns) l.yielded) × (l.logs.items ≡ map (λ (f : Finished). f.log) l.yielded)
