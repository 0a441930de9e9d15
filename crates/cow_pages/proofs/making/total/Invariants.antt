use Rattle.std.proofs.Common.{◌≡◌, length, take}
use Rattle.cow_pages.specs.Lists.{flat}
use Rattle.cow_pages.proofs.making.total.Given as goal

abbrev pub invariant-links : goal.invariant-links
invariant-links g l = l.count ≡ length (flat (take l.link-index l.links))
