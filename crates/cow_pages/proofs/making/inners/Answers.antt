use Rattle.std.proofs.Common.{List, ◌++◌, length, ap, ap₂, ◌∙◌, sym, subst, arith}
use Rattle.cow_pages.specs.Lists.{Below, flat}
use Rattle.cow_pages.proofs.PartLists.{parts-gone-pages, parts-one, parts-two, flat-halves, low-halves, flat-front, flat-back}
use Rattle.cow_pages.proofs.making.inners.Goals as goal

pub returns-then-count-eq0 : goal.returns-then-count-eq0
returns-then-count-eq0 g c = parts-gone-pages c.args.height c.args.links.items (omega arith)

pub returns-then-count-le-INNER : goal.returns-then-count-le-INNER
returns-then-count-le-INNER g c = parts-one c.args.height c.in_ok-inner.field-0 (flat c.args.links.items) c.in_ok-inner.ensures

pub inner-requires-2-clause-low : goal.inner-requires-2-clause-low
inner-requires-2-clause-low g c = subst (Below c.args.height) (sym c.in_ok-rest.ensures.items) (low-halves c.args.height c.args.links.items c.place.result c.requires.low).0

pub inner-requires-2-clause-short : goal.inner-requires-2-clause-short
inner-requires-2-clause-short g c = omega (arith, flat-front c.args.links.items c.place.result, ap (λ (zs : List _). length (flat zs)) c.in_ok-rest.ensures.items, c.requires.short)

pub inner-requires-3-clause-low : goal.inner-requires-3-clause-low
inner-requires-3-clause-low g c = subst (Below c.args.height) (sym c.in_ok-rest.ensures.tail) (low-halves c.args.height c.args.links.items c.place.result c.requires.low).1

pub inner-requires-3-clause-short : goal.inner-requires-3-clause-short
inner-requires-3-clause-short g c = omega (arith, flat-back c.args.links.items c.place.result, ap (λ (zs : List _). length (flat zs)) c.in_ok-rest.ensures.tail, c.requires.short)

pub returns : goal.returns
returns g c =
    parts-two c.args.height c.in_ok-inner-2.field-0 c.in_ok-inner-3.field-0 _ _ (flat c.args.links.items) c.in_ok-inner-2.ensures c.in_ok-inner-3.ensures (
    ap₂ (λ (xs ys : List _). flat xs ++ flat ys) c.in_ok-rest.ensures.items c.in_ok-rest.ensures.tail ∙ flat-halves c.args.links.items c.place.result)
