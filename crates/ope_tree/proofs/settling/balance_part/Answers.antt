use Rattle.std.proofs.Common.{ℕ, List, length, remove, get_or, ap, ap₂, sym, ◌∙◌, arith}
use Rattle.tree_model.specs.Trees.{Tree, balanced, inorder, size, height}
use Rattle.tree_model.specs.Items.{Item}
use Rattle.tree_model.proofs.Halves.{size-balanced}
use Rattle.tree_model.proofs.Ways.{length-inorder}
use Rattle.mope_base.specs.declared.body.Body.{Body}
use Rattle.path_code.specs.Ways.{way}
use Rattle.code_changes.specs.Changes.{differing}
use Rattle.code_changes.specs.Removal.{codes_along}
use Rattle.ope_tree.specs.Nodes.{tree_of, items_of_entries}
use Rattle.ope_tree.specs.Settling.{moved_in, added_in}
use Rattle.ope_tree.proofs.Ancestors.{height-rebalanced}
use Rattle.ope_tree.proofs.Builders.{built_same, collected_all}
use Rattle.ope_tree.proofs.Splitting.{length-moved_in}
use Rattle.ope_tree.proofs.settling.balance_part.Goals as goal

pub parted_codes-requires-2-clause-short : goal.parted_codes-requires-2-clause-short
parted_codes-requires-2-clause-short c =
    let t = tree_of c.args.nodes.now c.args.part.link in
    let items = collected_all c.new-entries.result.items c.collect.new.entries.items c.deref.result.now t c.new-entries.ensures.items c.in_ok-collect.ensures c.deref.ensures.value in
    let now = c.in_ok-root.ensures.names ∙ ap (λ (xs : List (Item Body)). balanced xs) items in
    omega (arith, ap (λ (u : Tree (Item Body)). height u) now, height-rebalanced t, c.requires.short)

pub parted_codes-requires-2-clause-is_rank : goal.parted_codes-requires-2-clause-is_rank
parted_codes-requires-2-clause-is_rank c =
    let t = tree_of c.args.nodes.now c.args.part.link in
    let items = collected_all c.new-entries.result.items c.collect.new.entries.items c.deref.result.now t c.new-entries.ensures.items c.in_ok-collect.ensures c.deref.ensures.value in
    let now = c.in_ok-root.ensures.names ∙ ap (λ (xs : List (Item Body)). balanced xs) items in
    omega (arith, ap (λ (u : Tree (Item Body)). size u) now, size-balanced (inorder t), length-inorder t, c.requires.is_rank)

pub differing-requires : goal.differing-requires
differing-requires c =
    let t = tree_of c.args.nodes.now c.args.part.link in
    let w = way c.args.part.path in
    let items = collected_all c.new-entries.result.items c.collect.new.entries.items c.deref.result.now t c.new-entries.ensures.items c.in_ok-collect.ensures c.deref.ensures.value in
    let now = c.in_ok-root.ensures.names ∙ ap (λ (xs : List (Item Body)). balanced xs) items in
    let old = c.deref-2.ensures.value ∙ c.in_ok-before.ensures.others in
    let new = c.deref-3.ensures.value ∙ c.in_ok-after.ensures.others ∙ ap (λ (u : Tree (Item Body)). remove (codes_along w u) c.args.part.rank) now in
    ap length old ∙ length-moved_in w t c.args.part.rank c.requires.is_rank ∙ sym (ap length new)

pub returns-clause-built : goal.returns-clause-built
returns-clause-built c =
    let t = tree_of c.args.nodes.now c.args.part.link in
    let items = collected_all c.new-entries.result.items c.collect.new.entries.items c.deref.result.now t c.new-entries.ensures.items c.in_ok-collect.ensures c.deref.ensures.value in
    built_same c.args.nodes.now c.balance.new.nodes c.in_ok-root.root (balanced (items_of_entries c.deref.result.now)) (balanced (inorder t)) (ap (λ (xs : List (Item Body)). balanced xs) items) c.in_ok-root.ensures

pub returns-clause-moved : goal.returns-clause-moved
unfolding moved_in
returns-clause-moved c =
    let t = tree_of c.args.nodes.now c.args.part.link in
    let w = way c.args.part.path in
    let items = collected_all c.new-entries.result.items c.collect.new.entries.items c.deref.result.now t c.new-entries.ensures.items c.in_ok-collect.ensures c.deref.ensures.value in
    let now = c.in_ok-root.ensures.names ∙ ap (λ (xs : List (Item Body)). balanced xs) items in
    let old = c.deref-2.ensures.value ∙ c.in_ok-before.ensures.others in
    let new = c.deref-3.ensures.value ∙ c.in_ok-after.ensures.others ∙ ap (λ (u : Tree (Item Body)). remove (codes_along w u) c.args.part.rank) now in
    c.in_ok-moved.ensures ∙ ap₂ (λ (xs ys : List ℕ). differing xs ys) old new

pub returns-clause-added : goal.returns-clause-added
unfolding added_in
returns-clause-added c =
    let t = tree_of c.args.nodes.now c.args.part.link in
    let w = way c.args.part.path in
    let items = collected_all c.new-entries.result.items c.collect.new.entries.items c.deref.result.now t c.new-entries.ensures.items c.in_ok-collect.ensures c.deref.ensures.value in
    let now = c.in_ok-root.ensures.names ∙ ap (λ (xs : List (Item Body)). balanced xs) items in
    c.in_ok-after.ensures.own ∙ ap (λ (u : Tree (Item Body)). get_or (codes_along w u) c.args.part.rank 0) now
