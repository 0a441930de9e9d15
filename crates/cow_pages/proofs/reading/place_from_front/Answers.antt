use Rattle.std.proofs.Common.{◌≡◌, ℕ, ◌+◌, ◌-◌, ◌<◌, length, take, get_or, ap, ◌∙◌, sym, arith}
use Rattle.cow_pages.specs.Lists.{flat}
use Rattle.cow_pages.proofs.PageLists.{length-flat-take-suc, place_of_number, last_page}
use Rattle.cow_pages.proofs.reading.place_from_front.Goals as goal

pub links-init : goal.links-init
unfolding flat
links-init g c = omega arith

pub returns-then-rest-count : goal.returns-then-rest-count
returns-then-rest-count g c =
    let item = c.index-links-number.result in
    let lt : c.links.number < length c.args.links.now = omega arith in
    let count : c.len-count.result ≡ length (get_or c.args.links.now c.links.number item).1 = c.len-count.ensures ∙ ap (λ x. length x.1) c.index-links-number.is in
    place_of_number c.args.links.now c.args.place c.links.number c.links.rest item lt c.links.invariant (omega arith) (λ within. omega arith)

pub links-preserved : goal.links-preserved
links-preserved g c =
    let item = c.index-links-number.result in
    let lt : c.links.number < length c.args.links.now = omega arith in
    let count : c.len-count.result ≡ length (get_or c.args.links.now c.links.number item).1 = c.len-count.ensures ∙ ap (λ x. length x.1) c.index-links-number.is in
    let more = length-flat-take-suc c.args.links.now c.links.number item lt in
    omega (arith, more, c.links.invariant)

pub returns : goal.returns
returns g c =
    last_page c.args.links.now c.args.place (length c.args.links.now - 1) c.links.rest (omega arith)
    (let now : c.links.number ≡ length c.args.links.now - 1 = omega arith in ap (λ (n : ℕ). length (flat (take n c.args.links.now)) + c.links.rest) (sym now) ∙ c.links.invariant) c.requires.within
