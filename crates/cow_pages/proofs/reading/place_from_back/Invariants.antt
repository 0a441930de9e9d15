use Rattle.std.proofs.Common.{◌≡◌, ◌<◌, ◌+◌, length, take}
use Rattle.cow_pages.specs.Lists.{flat}
use Rattle.cow_pages.proofs.reading.place_from_back.Given as goal

-- up to the end of the page of this number there are so many items from the place on
abbrev pub invariant-links : goal.invariant-links
invariant-links g l = (l.number < length l.links) × (l.place + l.after ≡ length (flat (take (l.number + 1) l.links))) × (l.place < length (flat l.links) → 0 < l.after)

abbrev pub decreases-links : goal.decreases-links
decreases-links g l = l.number
