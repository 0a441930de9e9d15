use Rattle.std.proofs.Common.{◌≡◌, ◌+◌, ◌-◌, ◌/◌, length, arith, sym, take, drop, get_or, ap, refl, List, rules}
use Rattle.std.proofs.lemmas.Bool.{eqb-true, eqb-false}
use Rattle.std.proofs.lemmas.List.{take_rest, length-take, length-drop}
use Rattle.ope_tree.specs.declared.nodes.Entry.{Entry}
use Rattle.ope_tree.specs.Built.{IsBuilt}
use Rattle.ope_tree.specs.Nodes.{item_of, items_of_entries}
use Rattle.tree_model.specs.Trees.{balanced, node}
use Rattle.ope_tree.proofs.Builders.{built_nothing, built_over, built_same, balanced_entries, balanced_no_entries, size-entries}
use Rattle.ope_tree.proofs.Fitting.{fits_both}
use Rattle.ope_tree.proofs.building.+balance.Goals as goal

pub returns-then-is_empty : goal.returns-then-is_empty
returns-then-is_empty t c =
    let none : length c.args.entries.now ≡ 0 = eqb-true (length c.args.entries.now) 0 (sym c.if-is_empty.ensures) in
    built_nothing c.args.nodes.now (balanced (items_of_entries c.args.entries.now)) (balanced_no_entries c.args.entries.now none)

pub add_node-requires : goal.add_node-requires
add_node-requires t c =
    let entries = c.args.entries.now in
    let half = length entries / 2 in
    let front = take half entries in
    let back = drop (half + 1) entries in
    let rest : take (length entries - (half + 1)) (drop (half + 1) entries) ≡ back = take_rest entries (half + 1) in
    let right : IsBuilt c.balance.new.nodes c.balance-2.new.nodes c.in_ok-right.right (balanced (items_of_entries back)) =
    built_same c.balance.new.nodes c.balance-2.new.nodes c.in_ok-right.right (balanced (items_of_entries (take (length entries - (half + 1)) (drop (half + 1) entries)))) (balanced (items_of_entries back)) (ap (λ (xs : List Entry). balanced (items_of_entries xs)) rest) c.in_ok-right.ensures in
    let zero : Entry = record { body = record { nonce = 0; masked = 0 }; count = 0 } in
    let many : c.in-Ok.size ≡ length entries = search rules in
    let some = eqb-false (length entries) 0 (sym c.if-is_empty.ensures) in
    fits_both c.args.nodes.now c.balance.new.nodes c.balance-2.new.nodes c.in_ok-left.left c.in_ok-right.right c.in-Ok.size (c.in-Ok.size / 2) (get_or entries half zero) (balanced (items_of_entries front)) (balanced (items_of_entries back))
    c.in_ok-left.ensures right (omega (arith, many, size-entries front, length-take half entries)) (omega (arith, many, some, size-entries back, length-drop (half + 1) entries))

pub returns : goal.returns
returns t c =
    let entries = c.args.entries.now in
    let half = length entries / 2 in
    let a = c.args.nodes.now in
    let d = c.add_node.new.nodes in
    let front = take half entries in
    let back = drop (half + 1) entries in
    let rest : take (length entries - (half + 1)) (drop (half + 1) entries) ≡ back = take_rest entries (half + 1) in
    let right : IsBuilt c.balance.new.nodes c.balance-2.new.nodes c.in_ok-right.right (balanced (items_of_entries back)) =
    built_same c.balance.new.nodes c.balance-2.new.nodes c.in_ok-right.right (balanced (items_of_entries (take (length entries - (half + 1)) (drop (half + 1) entries)))) (balanced (items_of_entries back)) (ap (λ (xs : List Entry). balanced (items_of_entries xs)) rest) c.in_ok-right.ensures in
    let zero : Entry = record { body = record { nonce = 0; masked = 0 }; count = 0 } in
    let middle = get_or entries half zero in
    built_same a d c.in_ok-link.link (node (balanced (items_of_entries front)) (item_of middle) (balanced (items_of_entries back))) (balanced (items_of_entries entries))
    (balanced_entries entries front back half middle zero (omega (arith, eqb-false (length entries) 0 (sym c.if-is_empty.ensures))) refl refl refl refl)
    (built_over a c.balance.new.nodes c.balance-2.new.nodes d c.in_ok-left.left c.in_ok-right.right c.in_ok-link.link (item_of middle) (balanced (items_of_entries front)) (balanced (items_of_entries back))
    c.in_ok-left.ensures right c.in_ok-link.ensures)
