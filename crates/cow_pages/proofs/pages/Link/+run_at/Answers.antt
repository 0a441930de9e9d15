use Rattle.std.proofs.Common.{List, ap, ◌∙◌, sym, subst}
use Rattle.cow_pages.specs.Lists.{IsPlace}
use Rattle.cow_pages.specs.Nodes.{items_of}
use Rattle.cow_pages.proofs.Descents.{seen, run_in_page}
use Rattle.cow_pages.proofs.pages.Link.+run_at.Goals as goal

pub returns-in-Inner-clause-run : goal.returns-in-Inner-clause-run
returns-in-Inner-clause-run g t c =
    let links = c.in-Inner.links.items in
    let height = c.page.inside.height in
    let number = c.place_in-number.result.0 in
    let rest = c.place_in-number.result.1 in
    let is = ap (λ n. seen height (items_of n)) (sym c.in-Inner.is) ∙ c.page.view_is ∙ c.deref-page.ensures ∙ c.self.view_is in
    let place : IsPlace links c.args.place number rest = subst (λ (zs : List _). IsPlace zs c.args.place number rest) c.deref-in-Inner.ensures.value c.place_in-number.ensures in
    run_in_page c.args.self.now height links c.args.place number rest c.index.result.now c.run_at.result.now is place c.index.ensures c.run_at.ensures.run
