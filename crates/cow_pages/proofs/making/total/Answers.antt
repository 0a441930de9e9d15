use Rattle.std.proofs.Common.{◌≡◌, ◌<◌, length, take, get_or, refl, ap, ◌∙◌, arith}
use Rattle.cow_pages.specs.Lists.{flat}
use Rattle.cow_pages.proofs.PageLists.{length-flat-take, length-flat-take-suc}
use Rattle.cow_pages.proofs.making.total.Goals as goal

pub links-init : goal.links-init
unfolding flat
links-init g c = refl

pub overflow_add-count : goal.overflow_add-count
overflow_add-count g c =
    let lt : c.links.link-index < length c.args.links.now = omega arith in
    let count : c.len-count.result ≡ length (get_or c.args.links.now c.links.link-index c.link-item.result).1 = c.len-count.ensures ∙ ap (λ x. length x.1) c.link-item.is in
    omega (arith, length-flat-take c.args.links.now c.links.link-index c.link-item.result lt)

pub links-preserved : goal.links-preserved
links-preserved g c =
    let lt : c.links.link-index < length c.args.links.now = omega arith in
    let count : c.len-count.result ≡ length (get_or c.args.links.now c.links.link-index c.link-item.result).1 = c.len-count.ensures ∙ ap (λ x. length x.1) c.link-item.is in
    let more = length-flat-take-suc c.args.links.now c.links.link-index c.link-item.result lt in
    let now : c.links.count ≡ length (flat (take c.links.link-index c.args.links.now)) = c.links.invariant in
    omega (arith, now, more)
