use Rattle.std.proofs.Common.{◌≡◌, ◌++◌, take}
use Rattle.cow_pages.proofs.copying.push_links.Given as goal

abbrev pub invariant-links : goal.invariant-links
invariant-links g l = l.into.items ≡ l.initial.into.items ++ take l.link-index l.links
