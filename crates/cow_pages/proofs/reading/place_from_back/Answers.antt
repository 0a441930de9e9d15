use Rattle.std.proofs.Common.{◌≡◌, ℕ, zero, ◌+◌, ◌-◌, length, take, get_or, ap, ◌∙◌, sym, subst, arith}
use Rattle.cow_pages.specs.Lists.{flat, IsPlace}
use Rattle.cow_pages.proofs.PageLists.{length-flat-take-suc, page_before_end, first_page}
use Rattle.cow_pages.proofs.reading.place_from_back.Goals as goal

pub returns-then-after-count : goal.returns-then-after-count
returns-then-after-count g c =
    let links = c.args.links.now in
    let item = c.index-links-number.result in
    let count : c.len-count.result ≡ length (get_or links c.links.number item).1 = c.len-count.ensures ∙ ap (λ x. length x.1) c.index-links-number.is in
    let place = page_before_end links c.args.place c.links.number c.links.after item c.links.invariant.0 c.links.invariant.1 (omega (arith, count, c.if-after-count.true)) c.links.invariant.2 in
    subst (λ (n : ℕ). IsPlace links c.args.place c.links.number (n - c.links.after)) (sym count) place

pub links-preserved : goal.links-preserved
links-preserved g c =
    let links = c.args.links.now in
    let item = c.index-links-number.result in
    let count : c.len-count.result ≡ length (get_or links c.links.number item).1 = c.len-count.ensures ∙ ap (λ x. length x.1) c.index-links-number.is in
    let more = length-flat-take-suc links c.links.number item c.links.invariant.0 in
    let back : c.links.number - 1 + 1 ≡ c.links.number = omega (arith, c.links-test.true) in
    let front = ap (λ (n : ℕ). length (flat (take n links))) back in
    (omega (arith, c.links.invariant.0), omega (arith, front, more, count, c.links.invariant.1, c.if-after-count.false), (λ below. omega (arith, c.if-after-count.false)))

pub returns : goal.returns
returns g c =
    let links = c.args.links.now in
    let first : c.links.number ≡ zero = omega (arith, c.links-test.false) in
    let sum : c.args.place + c.links.after ≡ length (flat (take 1 links)) = c.links.invariant.1 ∙ ap (λ (n : ℕ). length (flat (take (n + 1) links))) first in
    first_page links c.args.place c.links.after c.requires.some sum c.links.invariant.2
