use Rattle.std.proofs.Common.{◌∙◌, sym, subst, ◌≤◌, arith}
use Rattle.mope_base.specs.declared.body.Body.{Body}
use Rattle.tree_model.specs.Trees.{Tree, height}
use Rattle.tree_model.specs.Items.{Item}
use Rattle.ope_tree.specs.Nodes.{tree_of}
use Rattle.ope_tree.proofs.Sweeps.{IsSeen, collected, stayed_is, dropped_is, whole_is, whole_short, as_many, IsMade, change_is, change_normal}
use Rattle.ope_tree.proofs.sweeping.sweep.Goals as goal

pub all_codes-requires-2-clause-short : goal.all_codes-requires-2-clause-short
all_codes-requires-2-clause-short c =
    let t = tree_of c.args.nodes.now c.args.shape.root in
    let entries = collected c.new-entries.result.items c.collect.new.entries.items t c.new-entries.ensures.items c.in_ok-collect.ensures in
    let tree = whole_is t (tree_of c.balance.new.nodes c.in_ok-root.root) c.collect.new.entries.items c.deref-5.result.now c.in_ok-kept.kept.items c.deref-6.result.now entries c.deref-5.ensures.value c.in_ok-kept.ensures c.deref-6.ensures.value c.in_ok-root.ensures.names in
    let P : Tree (Item Body) → Type 0 = λ u. height u ≤ 63 in
    subst P (sym tree) (whole_short t c.args.shape.alive c.requires.alive (omega arith))

pub returns-clause-tree : goal.returns-clause-tree
returns-clause-tree c =
    let t = tree_of c.args.nodes.now c.args.shape.root in
    let entries = collected c.new-entries.result.items c.collect.new.entries.items t c.new-entries.ensures.items c.in_ok-collect.ensures in
    whole_is t (tree_of c.balance.new.nodes c.in_ok-root.root) c.collect.new.entries.items c.deref-5.result.now c.in_ok-kept.kept.items c.deref-6.result.now entries c.deref-5.ensures.value c.in_ok-kept.ensures c.deref-6.ensures.value c.in_ok-root.ensures.names

pub differing-requires : goal.differing-requires
differing-requires c =
    let t = tree_of c.args.nodes.now c.args.shape.root in
    let u = tree_of c.balance.new.nodes c.in_ok-root.root in
    let entries = collected c.new-entries.result.items c.collect.new.entries.items t c.new-entries.ensures.items c.in_ok-collect.ensures in
    let one : IsSeen t c.collect.new.entries.items c.deref.result.now c.in_ok-before.before.items c.deref-2.result.now = record { entries_are = entries; codes_are = c.in_ok-before.ensures; same_entries = c.deref.ensures.value; same_codes = c.deref-2.ensures.value } in
    as_many t u c.deref-7.result.now c.deref-8.result.now
    (c.deref-7.ensures.value ∙ stayed_is t c.collect.new.entries.items c.deref.result.now c.in_ok-before.before.items c.deref-2.result.now c.in_ok-stayed.stayed.items one c.in_ok-stayed.ensures)
    (whole_is t u c.collect.new.entries.items c.deref-5.result.now c.in_ok-kept.kept.items c.deref-6.result.now entries c.deref-5.ensures.value c.in_ok-kept.ensures c.deref-6.ensures.value c.in_ok-root.ensures.names)
    (c.deref-8.ensures.value ∙ c.in_ok-after.ensures)

pub of-change-requires : goal.of-change-requires
of-change-requires c =
    let t = tree_of c.args.nodes.now c.args.shape.root in
    let u = tree_of c.balance.new.nodes c.in_ok-root.root in
    let entries = collected c.new-entries.result.items c.collect.new.entries.items t c.new-entries.ensures.items c.in_ok-collect.ensures in
    let one : IsSeen t c.collect.new.entries.items c.deref.result.now c.in_ok-before.before.items c.deref-2.result.now = record { entries_are = entries; codes_are = c.in_ok-before.ensures; same_entries = c.deref.ensures.value; same_codes = c.deref-2.ensures.value } in
    let two : IsSeen t c.collect.new.entries.items c.deref-3.result.now c.in_ok-before.before.items c.deref-4.result.now = record { entries_are = entries; codes_are = c.in_ok-before.ensures; same_entries = c.deref-3.ensures.value; same_codes = c.deref-4.ensures.value } in
    let made : IsMade t u c.deref-7.result.now c.deref-8.result.now c.in_ok-dropped.dropped.items c.new.result.items c.in_ok-moved.moved.items = record {
      stay = c.deref-7.ensures.value ∙ stayed_is t c.collect.new.entries.items c.deref.result.now c.in_ok-before.before.items c.deref-2.result.now c.in_ok-stayed.stayed.items one c.in_ok-stayed.ensures;
      go = dropped_is t c.collect.new.entries.items c.deref-3.result.now c.in_ok-before.before.items c.deref-4.result.now c.in_ok-dropped.dropped.items two c.in_ok-dropped.ensures;
      tree = whole_is t u c.collect.new.entries.items c.deref-5.result.now c.in_ok-kept.kept.items c.deref-6.result.now entries c.deref-5.ensures.value c.in_ok-kept.ensures c.deref-6.ensures.value c.in_ok-root.ensures.names;
      codes = c.deref-8.ensures.value ∙ c.in_ok-after.ensures;
      pairs = c.in_ok-moved.ensures;
      none = c.new.ensures.items;
    } in
    change_normal t u c.args.shape.alive c.deref-7.result.now c.deref-8.result.now c.in_ok-dropped.dropped.items c.new.result.items c.in_ok-moved.moved.items c.requires.short c.requires.alive (omega arith) made

pub returns-clause-change : goal.returns-clause-change
returns-clause-change c =
    let t = tree_of c.args.nodes.now c.args.shape.root in
    let u = tree_of c.balance.new.nodes c.in_ok-root.root in
    let entries = collected c.new-entries.result.items c.collect.new.entries.items t c.new-entries.ensures.items c.in_ok-collect.ensures in
    let one : IsSeen t c.collect.new.entries.items c.deref.result.now c.in_ok-before.before.items c.deref-2.result.now = record { entries_are = entries; codes_are = c.in_ok-before.ensures; same_entries = c.deref.ensures.value; same_codes = c.deref-2.ensures.value } in
    let two : IsSeen t c.collect.new.entries.items c.deref-3.result.now c.in_ok-before.before.items c.deref-4.result.now = record { entries_are = entries; codes_are = c.in_ok-before.ensures; same_entries = c.deref-3.ensures.value; same_codes = c.deref-4.ensures.value } in
    let made : IsMade t u c.deref-7.result.now c.deref-8.result.now c.in_ok-dropped.dropped.items c.new.result.items c.in_ok-moved.moved.items = record {
      stay = c.deref-7.ensures.value ∙ stayed_is t c.collect.new.entries.items c.deref.result.now c.in_ok-before.before.items c.deref-2.result.now c.in_ok-stayed.stayed.items one c.in_ok-stayed.ensures;
      go = dropped_is t c.collect.new.entries.items c.deref-3.result.now c.in_ok-before.before.items c.deref-4.result.now c.in_ok-dropped.dropped.items two c.in_ok-dropped.ensures;
      tree = whole_is t u c.collect.new.entries.items c.deref-5.result.now c.in_ok-kept.kept.items c.deref-6.result.now entries c.deref-5.ensures.value c.in_ok-kept.ensures c.deref-6.ensures.value c.in_ok-root.ensures.names;
      codes = c.deref-8.ensures.value ∙ c.in_ok-after.ensures;
      pairs = c.in_ok-moved.ensures;
      none = c.new.ensures.items;
    } in
    c.of-change.ensures ∙ change_is t u c.deref-7.result.now c.deref-8.result.now c.in_ok-dropped.dropped.items c.new.result.items c.in_ok-moved.moved.items made
