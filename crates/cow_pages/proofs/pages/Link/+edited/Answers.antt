use Rattle.std.proofs.Common.{◌≡◌, ℕ, ◌+◌, List, ◌++◌, length, take, drop, ap, ◌∙◌, sym, subst, arith}
use Rattle.cow_pages.specs.Lists.{flat, IsPlace}
use Rattle.cow_pages.specs.Nodes.{items_of, IsNode}
use Rattle.cow_pages.specs.Edits.{changed, HasPlace}
use Rattle.cow_pages.specs.Parts.{pages_of}
use Rattle.cow_pages.proofs.Descents.{seen, step, low-replaced, flat-replaced}
use Rattle.cow_pages.proofs.PartLists.{IfOk-map, parts-as}
use Rattle.cow_pages.proofs.Splices.{length-changed-room}
use Rattle.cow_pages.proofs.pages.Link.+edited.Goals as goal

pub edited-requires : goal.edited-requires
edited-requires g t c κs within =
    let links = c.in-Inner.links.items in
    let height = c.page.inside.height in
    let number = c.place_in-number.result.0 in
    let rest = c.place_in-number.result.1 in
    let is = ap (λ n. seen height (items_of n)) (sym c.in-Inner.is) ∙ c.page.view_is ∙ c.deref-page.ensures ∙ c.self.view_is in
    let node = subst (IsNode height) c.in-Inner.is c.page.invariant in
    let place : IsPlace links c.args.place number rest = subst (λ (zs : List _). IsPlace zs c.args.place number rest) c.deref-in-Inner.ensures.value c.place_in-number.ensures in
    let down = step c.args.edit c.args.self.now height links c.args.place number rest c.index.result.now is node.0 place c.index.ensures c.requires.place in
    (omega (arith, c.decreases, down.lower), (within, (down.place, omega (arith, down.short, c.requires.room))))

pub inners-requires-clause-low : goal.inners-requires-clause-low
inners-requires-clause-low g t c =
    let links = c.in-Inner.links.items in
    let height = c.page.inside.height in
    let number = c.place_in-number.result.0 in
    let rest = c.place_in-number.result.1 in
    let node = subst (IsNode height) c.in-Inner.is c.page.invariant in
    let place : IsPlace links c.args.place number rest = subst (λ (zs : List _). IsPlace zs c.args.place number rest) c.deref-in-Inner.ensures.value c.place_in-number.ensures in
    let news = pages_of c.in_ok-parts-in-Inner.parts in
    let copies = c.in_ok-links-in-Inner.links.items in
    let made = subst (λ (zs : List _). copies ≡ take number zs ++ (news ++ drop (number + 1) zs)) c.deref-in-Inner-2.ensures.value c.in_ok-links-in-Inner.ensures in
    low-replaced height links news copies c.args.place number rest c.index.result.now node.0 place c.index.ensures c.in_ok-parts-in-Inner.ensures.low made

pub inners-requires-clause-short : goal.inners-requires-clause-short
inners-requires-clause-short g t c =
    let links = c.in-Inner.links.items in
    let height = c.page.inside.height in
    let number = c.place_in-number.result.0 in
    let rest = c.place_in-number.result.1 in
    let is = ap (λ n. seen height (items_of n)) (sym c.in-Inner.is) ∙ c.page.view_is ∙ c.deref-page.ensures ∙ c.self.view_is in
    let whole : flat links ≡ c.args.self.now.1 = ap (λ (v : ℕ × List _). v.1) is in
    let place : IsPlace links c.args.place number rest = subst (λ (zs : List _). IsPlace zs c.args.place number rest) c.deref-in-Inner.ensures.value c.place_in-number.ensures in
    let news = pages_of c.in_ok-parts-in-Inner.parts in
    let copies = c.in_ok-links-in-Inner.links.items in
    let made = subst (λ (zs : List _). copies ≡ take number zs ++ (news ++ drop (number + 1) zs)) c.deref-in-Inner-2.ensures.value c.in_ok-links-in-Inner.ensures in
    let has = subst (λ (zs : List _). HasPlace c.args.edit zs c.args.place) (sym whole) c.requires.place in
    let flat_is = flat-replaced c.args.edit links news copies c.args.place number rest c.index.result.now place c.index.ensures has c.in_ok-parts-in-Inner.ensures.same made in
    omega (arith, c.requires.room, ap length whole, ap length flat_is, length-changed-room c.args.edit (flat links) c.args.place has)

pub returns-in_ok-items-in-Leaf : goal.returns-in_ok-items-in-Leaf
returns-in_ok-items-in-Leaf g t c =
    let height = c.page.inside.height in
    let is = ap (λ n. seen height (items_of n)) (sym c.in-Leaf.is) ∙ c.page.view_is ∙ c.deref-page.ensures ∙ c.self.view_is in
    let items = c.in_ok-items-in-Leaf.ensures ∙ ap (λ (zs : List _). changed c.args.edit zs c.args.place) (c.deref.ensures.value ∙ ap (λ (v : ℕ × List _). v.1) is) in
    IfOk-map c.leaves.result (λ parts of_items. parts-as 0 c.args.self.now.0 parts _ _ (omega arith) items of_items) c.leaves.ensures

pub returns-in_ok-links-in-Inner : goal.returns-in_ok-links-in-Inner
returns-in_ok-links-in-Inner g t c =
    let links = c.in-Inner.links.items in
    let height = c.page.inside.height in
    let number = c.place_in-number.result.0 in
    let rest = c.place_in-number.result.1 in
    let is = ap (λ n. seen height (items_of n)) (sym c.in-Inner.is) ∙ c.page.view_is ∙ c.deref-page.ensures ∙ c.self.view_is in
    let whole : flat links ≡ c.args.self.now.1 = ap (λ (v : ℕ × List _). v.1) is in
    let tall : height ≡ c.args.self.now.0 = ap (λ (v : ℕ × List _). v.0) is in
    let place : IsPlace links c.args.place number rest = subst (λ (zs : List _). IsPlace zs c.args.place number rest) c.deref-in-Inner.ensures.value c.place_in-number.ensures in
    let news = pages_of c.in_ok-parts-in-Inner.parts in
    let copies = c.in_ok-links-in-Inner.links.items in
    let made = subst (λ (zs : List _). copies ≡ take number zs ++ (news ++ drop (number + 1) zs)) c.deref-in-Inner-2.ensures.value c.in_ok-links-in-Inner.ensures in
    let has = subst (λ (zs : List _). HasPlace c.args.edit zs c.args.place) (sym whole) c.requires.place in
    let flat_is = flat-replaced c.args.edit links news copies c.args.place number rest c.index.result.now place c.index.ensures has c.in_ok-parts-in-Inner.ensures.same made in
    IfOk-map c.inners.result (λ parts of_items. parts-as height c.args.self.now.0 parts _ _ (omega arith) (flat_is ∙ ap (λ (zs : List _). changed c.args.edit zs c.args.place) whole) of_items) c.inners.ensures
