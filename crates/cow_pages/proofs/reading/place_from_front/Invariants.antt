use Rattle.std.proofs.Common.{◌≡◌, ◌+◌, length, take}
use Rattle.cow_pages.specs.Lists.{flat}
use Rattle.cow_pages.proofs.reading.place_from_front.Given as goal

-- the pages before this number have so many items before the place
abbrev pub invariant-links : goal.invariant-links
invariant-links g l = length (flat (take l.number l.links)) + l.rest ≡ l.place
