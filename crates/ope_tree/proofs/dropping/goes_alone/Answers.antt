use Rattle.std.proofs.Common.{ap, ◌∙◌, sym}
use Rattle.mope_base.specs.Modes.{is_same_time}
use Rattle.mope_base.specs.declared.numbers.Mode.{Mode}
use Rattle.tree_model.specs.Trees.{inorder}
use Rattle.code_changes.specs.Removal.{goes_alone}
use Rattle.ope_tree.specs.Nodes.{tree_of}
use Rattle.ope_tree.proofs.Sweeps.{tested, is_sparse-true, is_sparse-false}
use Rattle.ope_tree.proofs.Tidying.{swept_stays, ordinary_stays, same_time_goes}
use Rattle.ope_tree.proofs.dropping.goes_alone.Goals as goal

pub returns-then-needs_whole : goal.returns-then-needs_whole
returns-then-needs_whole c =
    let t = tree_of c.args.nodes.now c.args.shape.root in
    let test = tested c.args.shape.most c.args.shape.alive c.from.result c.from-2.result (inorder t) c.needs_whole.result c.requires.alive c.from.ensures c.from-2.ensures c.needs_whole.ensures in
    swept_stays (is_same_time c.args.mode) c.args.shape.most (inorder t) c.args.rank (is_sparse-true c.args.shape.most (inorder t) c.needs_whole.result test c.if-needs_whole.true)

pub returns-in-Ordinary : goal.returns-in-Ordinary
unfolding is_same_time
returns-in-Ordinary c =
    let t = tree_of c.args.nodes.now c.args.shape.root in
    ordinary_stays c.args.shape.most (inorder t) c.args.rank ∙ sym (ap (λ (mode : Mode). goes_alone (is_same_time mode) c.args.shape.most (inorder t) c.args.rank) c.in-Ordinary.is)

pub returns-in-SameTime : goal.returns-in-SameTime
unfolding is_same_time
returns-in-SameTime c =
    let t = tree_of c.args.nodes.now c.args.shape.root in
    let test = tested c.args.shape.most c.args.shape.alive c.from.result c.from-2.result (inorder t) c.needs_whole.result c.requires.alive c.from.ensures c.from-2.ensures c.needs_whole.ensures in
    c.has_no_rows.ensures
    ∙ same_time_goes c.args.shape.most (inorder t) c.args.rank (is_sparse-false c.args.shape.most (inorder t) c.needs_whole.result test c.if-needs_whole.false)
    ∙ sym (ap (λ (mode : Mode). goes_alone (is_same_time mode) c.args.shape.most (inorder t) c.args.rank) c.in-SameTime.is)
