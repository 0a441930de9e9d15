use Rattle.std.proofs.Common.{length, ap, ◌∙◌, sym, arith, length-append}
use Rattle.cow_pages.specs.Lists.{flat}
use Rattle.cow_pages.specs.Parts.{pages_of}
use Rattle.cow_pages.proofs.PageLists.{flat-nil}
use Rattle.cow_pages.proofs.PartLists.{flat-one, flat-two}
use Rattle.cow_pages.proofs.rooted.joined.Goals as goal

pub over_two-requires : goal.over_two-requires
over_two-requires g c =
    omega (arith, c.requires, ap (λ parts. length (flat (pages_of parts))) c.in-Two.is, ap length (flat-two c.in-Two.link c.in-Two.next), length-append c.in-Two.link.1 c.in-Two.next.1)

pub returns-in-Gone : goal.returns-in-Gone
returns-in-Gone g c = sym (ap (λ parts. flat (pages_of parts)) c.in-Gone.is ∙ flat-nil _)

pub returns-in-One : goal.returns-in-One
returns-in-One g c = sym (ap (λ parts. flat (pages_of parts)) c.in-One.is ∙ flat-one c.in-One.link)

pub returns-in_ok-over_two-in-Two : goal.returns-in_ok-over_two-in-Two
returns-in_ok-over_two-in-Two g c = c.in_ok-over_two-in-Two.ensures ∙ sym (ap (λ parts. flat (pages_of parts)) c.in-Two.is ∙ flat-two c.in-Two.link c.in-Two.next)
