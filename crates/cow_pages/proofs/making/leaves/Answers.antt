use Rattle.std.proofs.Common.{List, ◌++◌, ap₂, ◌∙◌, arith}
use Rattle.std.proofs.lemmas.List.{take-append-drop}
use Rattle.cow_pages.proofs.PartLists.{parts-gone, parts-one, parts-two}
use Rattle.cow_pages.proofs.making.leaves.Goals as goal

pub returns-then-count-eq0 : goal.returns-then-count-eq0
returns-then-count-eq0 g c = parts-gone 0 c.args.items.items (omega arith)

pub returns-then-count-leaf_room : goal.returns-then-count-leaf_room
returns-then-count-leaf_room g c = parts-one 0 c.in_ok-leaf.field-0 c.args.items.items c.in_ok-leaf.ensures

pub returns : goal.returns
returns g c =
    parts-two 0 c.in_ok-leaf-2.field-0 c.in_ok-leaf-3.field-0 _ _ c.args.items.items c.in_ok-leaf-2.ensures c.in_ok-leaf-3.ensures (
    ap₂ (λ (xs ys : List _). xs ++ ys) c.in_ok-rest.ensures.items c.in_ok-rest.ensures.tail ∙ take-append-drop c.place.result c.args.items.items)
