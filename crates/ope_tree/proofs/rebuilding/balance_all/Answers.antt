use Rattle.std.proofs.Common.{false, ◌∙◌, sym, subst, arith}
use Rattle.code_changes.specs.Normal.{IsNormal}
use Rattle.ope_tree.specs.Nodes.{tree_of}
use Rattle.ope_tree.specs.Seen.{column_of}
use Rattle.ope_tree.proofs.Laid.{tree_laid, column_laid, sound_laid, laid-short, sum_laid, change_laid, codes_as_many}
use Rattle.ope_tree.proofs.Sound.{sound_short}
use Rattle.ope_tree.proofs.rebuilding.balance_all.Goals as goal

pub all_codes-requires-clause-short : goal.all_codes-requires-clause-short
all_codes-requires-clause-short c = sound_short c.args.nodes.now c.args.shape.root c.args.shape.alive c.args.shape.most false c.requires

pub all_codes-requires-2-clause-short : goal.all_codes-requires-2-clause-short
all_codes-requires-2-clause-short c =
    let u = tree_of c.balance_anew.new.nodes c.in_ok-root.root in
    let u_is = tree_laid u (tree_of c.args.nodes.now c.args.shape.root) c.new-entries.result.items c.collect.new.entries.items c.deref.result.now c.new-entries.ensures.items c.in_ok-collect.ensures c.deref.ensures.value c.in_ok-root.ensures.tree in
    laid-short (column_of c.args.nodes.now c.args.shape.root c.args.shape.most) u u_is c.requires.kept (omega (arith, c.requires.few))

pub differing-requires : goal.differing-requires
differing-requires c =
    let u = tree_of c.balance_anew.new.nodes c.in_ok-root.root in
    let u_is = tree_laid u (tree_of c.args.nodes.now c.args.shape.root) c.new-entries.result.items c.collect.new.entries.items c.deref.result.now c.new-entries.ensures.items c.in_ok-collect.ensures c.deref.ensures.value c.in_ok-root.ensures.tree in
    codes_as_many (column_of c.args.nodes.now c.args.shape.root c.args.shape.most) u c.deref-2.result.now c.deref-3.result.now u_is (c.deref-2.ensures.value ∙ c.in_ok-before.ensures) (c.deref-3.ensures.value ∙ c.in_ok-after.ensures)

pub of-requires : goal.of-requires
of-requires c =
    let column = column_of c.args.nodes.now c.args.shape.root c.args.shape.most in
    let u = tree_of c.balance_anew.new.nodes c.in_ok-root.root in
    let u_is = tree_laid u (tree_of c.args.nodes.now c.args.shape.root) c.new-entries.result.items c.collect.new.entries.items c.deref.result.now c.new-entries.ensures.items c.in_ok-collect.ensures c.deref.ensures.value c.in_ok-root.ensures.tree in
    let sum_is = sum_laid column u c.deref-2.result.now c.deref-3.result.now c.in_ok-moved.moved.items c.new.result.items c.new-2.result.items u_is (c.deref-2.ensures.value ∙ c.in_ok-before.ensures) (c.deref-3.ensures.value ∙ c.in_ok-after.ensures) c.in_ok-moved.ensures c.new.ensures.items c.new-2.ensures.items in
    subst IsNormal (sym sum_is) (change_laid column c.requires.kept (omega (arith, c.requires.few)))

pub returns-clause-sound : goal.returns-clause-sound
returns-clause-sound c =
    let u = tree_of c.balance_anew.new.nodes c.in_ok-root.root in
    let u_is = tree_laid u (tree_of c.args.nodes.now c.args.shape.root) c.new-entries.result.items c.collect.new.entries.items c.deref.result.now c.new-entries.ensures.items c.in_ok-collect.ensures c.deref.ensures.value c.in_ok-root.ensures.tree in
    let column_is = column_laid c.args.nodes.now c.balance_anew.new.nodes c.args.shape.root c.in_ok-root.root c.args.shape.most c.size_of.result u_is c.size_of.ensures in
    sound_laid c.args.nodes.now c.balance_anew.new.nodes c.args.shape.root c.in_ok-root.root c.args.shape.alive c.args.shape.most c.size_of.result c.requires c.in_ok-root.ensures.link column_is

pub returns-clause-column : goal.returns-clause-column
returns-clause-column c =
    let u = tree_of c.balance_anew.new.nodes c.in_ok-root.root in
    let u_is = tree_laid u (tree_of c.args.nodes.now c.args.shape.root) c.new-entries.result.items c.collect.new.entries.items c.deref.result.now c.new-entries.ensures.items c.in_ok-collect.ensures c.deref.ensures.value c.in_ok-root.ensures.tree in
    column_laid c.args.nodes.now c.balance_anew.new.nodes c.args.shape.root c.in_ok-root.root c.args.shape.most c.size_of.result u_is c.size_of.ensures

pub returns-clause-change : goal.returns-clause-change
returns-clause-change c =
    let u = tree_of c.balance_anew.new.nodes c.in_ok-root.root in
    let u_is = tree_laid u (tree_of c.args.nodes.now c.args.shape.root) c.new-entries.result.items c.collect.new.entries.items c.deref.result.now c.new-entries.ensures.items c.in_ok-collect.ensures c.deref.ensures.value c.in_ok-root.ensures.tree in
    c.of.ensures
    ∙ sum_laid (column_of c.args.nodes.now c.args.shape.root c.args.shape.most) u c.deref-2.result.now c.deref-3.result.now c.in_ok-moved.moved.items c.new.result.items c.new-2.result.items u_is (c.deref-2.ensures.value ∙ c.in_ok-before.ensures) (c.deref-3.ensures.value ∙ c.in_ok-after.ensures) c.in_ok-moved.ensures c.new.ensures.items c.new-2.ensures.items
