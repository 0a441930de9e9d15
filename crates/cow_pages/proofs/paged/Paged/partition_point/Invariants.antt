use Rattle.std.proofs.Common.{◌-◌}
use Rattle.cow_pages.specs.Search.{IsBetween}
use Rattle.cow_pages.proofs.paged.Paged.partition_point.Given as goal

-- the items below `low` stand before the cut, and those from `high` on don't
abbrev pub invariant-halves : goal.invariant-halves
invariant-halves g l = IsBetween (λ item. g.C.Cut.before l.cut item) l.self l.low l.high

abbrev pub decreases-halves : goal.decreases-halves
decreases-halves g l = l.high - l.low
