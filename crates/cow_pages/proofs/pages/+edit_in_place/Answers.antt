use Rattle.std.proofs.Common.{◌≡◌, List, ap, ◌∙◌, sym, subst, arith, length-set}
use Rattle.cow_pages.specs.Lists.{flat, IsPlace}
use Rattle.cow_pages.specs.Nodes.{items_of, IsNode}
use Rattle.cow_pages.proofs.Descents.{step, low-edited, flat-edited, leaf-edited}
use Rattle.cow_pages.proofs.pages.+edit_in_place.Goals.{Page::edit_in_place-in-Leaf, Page::edit_in_place-in-Inner}
use Rattle.cow_pages.proofs.pages.+edit_in_place.Goals as goal

pub Page::edit_in_place-edit_in_place-requires : goal.Page::edit_in_place-edit_in_place-requires
Page::edit_in_place-edit_in_place-requires g t c κs within =
    let links = c.in-Inner.links.items in
    let height = c.self.inside.height in
    let is : (height, flat links) ≡ c.args.self.now = ap (λ n. (height, items_of n)) (sym c.in-Inner.is) ∙ c.self.view_is in
    let node = subst (IsNode height) c.in-Inner.is c.self.invariant in
    let place : IsPlace links c.args.place c.place_in-number.result.0 c.place_in-number.result.1 = subst (λ (zs : List _). IsPlace zs c.args.place c.place_in-number.result.0 c.place_in-number.result.1) c.deref.ensures.value c.place_in-number.ensures in
    let down = step c.args.edit c.args.self.now height links c.args.place c.place_in-number.result.0 c.place_in-number.result.1 c.index_mut.result.now is node.0 place c.index_mut.ensures.value c.requires.place in
    (omega (arith, c.decreases, down.lower), (within, (down.place, omega (arith, down.short, c.requires.room))))

pub Page::edit_in_place-invariant_of-self : goal.Page::edit_in_place-invariant_of-self
Page::edit_in_place-invariant_of-self g t c = elim c.match-self.branch [
  | Page::edit_in_place-in-Leaf w ↦ rw w.self-inside-is tt
  | Page::edit_in_place-in-Inner w ↦
      let links = w.in-Inner.links.items in
      let number = w.place_in-number.result.0 in
      let rest = w.place_in-number.result.1 in
      let node = subst (IsNode c.self.inside.height) w.in-Inner.is c.self.invariant in
      let place : IsPlace links c.args.place number rest = subst (λ (zs : List _). IsPlace zs c.args.place number rest) w.deref.ensures.value w.place_in-number.ensures in
      let low = low-edited c.args.edit w.edit_in_place.result c.self.inside.height links c.args.place number rest w.index_mut.result.now w.edit_in_place.new.self node.0 place w.index_mut.ensures.value w.edit_in_place.ensures in
      rw w.self-inside-is (low, omega (arith, node.1, length-set links number w.edit_in_place.new.self))
]

pub Page::edit_in_place-returns : goal.Page::edit_in_place-returns
Page::edit_in_place-returns g t c = elim c.match-self.branch [
  | Page::edit_in_place-in-Leaf w ↦
      let is = ap (λ n. (c.self.inside.height, items_of n)) (sym w.in-Leaf.is) ∙ c.self.view_is in
      rw (w.self-inside-is, w.result-is) (leaf-edited c.args.edit w.edit_items.result c.args.self.now c.self.inside.height w.in-Leaf.items.items w.edit_items.new.items.items c.args.place is w.edit_items.ensures)
  | Page::edit_in_place-in-Inner w ↦
      let links = w.in-Inner.links.items in
      let number = w.place_in-number.result.0 in
      let rest = w.place_in-number.result.1 in
      let is = ap (λ n. (c.self.inside.height, items_of n)) (sym w.in-Inner.is) ∙ c.self.view_is in
      let place : IsPlace links c.args.place number rest = subst (λ (zs : List _). IsPlace zs c.args.place number rest) w.deref.ensures.value w.place_in-number.ensures in
      rw (w.self-inside-is, w.result-is) (flat-edited c.args.edit w.edit_in_place.result c.args.self.now c.self.inside.height links c.args.place number rest w.index_mut.result.now w.edit_in_place.new.self is place w.index_mut.ensures.value c.requires.place w.edit_in_place.ensures)
]
