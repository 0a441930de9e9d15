use Rattle.std.proofs.Common.{◌≤◌, true, false, sym, subst}
use Rattle.mope_base.specs.Modes.{is_same_time}
use Rattle.tree_model.specs.ColumnLaws.{SuitsMode}
use Rattle.tree_model.specs.Trees.{height}
use Rattle.ope_tree.specs.Seen.{Seen, column_of}
use Rattle.ope_tree.proofs.Sound.{sound_short}
use Rattle.ope_tree.proofs.Spent.{kept_spent, short_spent}
use Rattle.ope_tree.proofs.EitherMode.{suits_dropped, suits_empty}
use Rattle.ope_tree.proofs.tree.Tree.drop_one.Goals as goal

pub returns-in_err-nodes-clause-kept : goal.returns-in_err-nodes-clause-kept
returns-in_err-nodes-clause-kept c = kept_spent c.take.new.self c.take.ensures.left

pub returns-in_err-nodes-clause-suits : goal.returns-in_err-nodes-clause-suits
returns-in_err-nodes-clause-suits c = λ _. suits_empty (is_same_time c.args.mode) true c.take.new.self c.take.ensures.left

pub returns-in_err-nodes-clause-short : goal.returns-in_err-nodes-clause-short
returns-in_err-nodes-clause-short c = short_spent c.take.new.self c.take.ensures.left

pub returns-in_err-done-clause-kept : goal.returns-in_err-done-clause-kept
returns-in_err-done-clause-kept c = kept_spent c.take.new.self c.take.ensures.left

pub returns-in_err-done-clause-suits : goal.returns-in_err-done-clause-suits
returns-in_err-done-clause-suits c = λ _. suits_empty (is_same_time c.args.mode) true c.take.new.self c.take.ensures.left

pub returns-in_err-done-clause-short : goal.returns-in_err-done-clause-short
returns-in_err-done-clause-short c = short_spent c.take.new.self c.take.ensures.left

pub returns-clause-suits : goal.returns-clause-suits
returns-clause-suits c = λ suits.
    let t = c.in_ok-nodes in
    let done = c.in_ok-done.done in
    let m = is_same_time c.args.mode in
    let P : Seen → Type 0 = λ seen. SuitsMode m seen.column in
    subst P (sym c.of.ensures)
    (suits_dropped m c.args.rank (column_of t.nodes t.shape.root t.shape.most) (column_of c.drop_and_compact.new.nodes done.shape.root done.shape.most) c.in_ok-done.ensures.column
    (subst P (sym t.ensures.seen) suits))

pub returns-clause-short : goal.returns-clause-short
returns-clause-short c =
    let done = c.in_ok-done.done in
    let P : Seen → Type 0 = λ seen. height seen.column.tree ≤ 63 in
    subst P (sym c.of.ensures) (sound_short c.drop_and_compact.new.nodes done.shape.root done.shape.alive done.shape.most false c.in_ok-done.ensures.sound)
