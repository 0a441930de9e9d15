use Rattle.std.proofs.Common.{◌≡◌, ◌^◌, ◌<◌, arith}
use Rattle.tree_model.specs.Trees.{inorder}
use Rattle.tree_model.specs.Items.{live, is_sparse}
use Rattle.tree_model.specs.Columns.{whole, pruned}
use Rattle.ope_tree.specs.declared.done.Done.{Done}
use Rattle.ope_tree.specs.Nodes.{tree_of}
use Rattle.ope_tree.specs.Seen.{column_of}
use Rattle.ope_tree.proofs.Sweeps.{tested, is_sparse-true, is_sparse-false, apart, pruned-sparse, pruned-enough, alive_swept, empty_normal, IfOk-both}
use Rattle.ope_tree.proofs.sweeping.sweep_if_sparse.Goals as goal

pub returns-then-needs_whole-clause-column : goal.returns-then-needs_whole-clause-column
returns-then-needs_whole-clause-column c =
    let t = tree_of c.args.nodes.now c.args.shape.root in
    let test = tested c.args.shape.most c.args.shape.alive c.from.result c.from-2.result (inorder t) c.needs_whole.result c.requires.alive c.from.ensures c.from-2.ensures c.needs_whole.ensures in
    let sparse = is_sparse-true c.args.shape.most (inorder t) c.needs_whole.result test c.if-needs_whole.true in
    IfOk-both (λ done. tree_of c.sweep.new.nodes done.shape.root ≡ whole t) (λ (done : Done). done.shape.most ≡ c.args.shape.alive) (λ done. column_of c.sweep.new.nodes done.shape.root done.shape.most ≡ pruned t c.args.shape.most)
    (λ done tree most. pruned-sparse t (tree_of c.sweep.new.nodes done.shape.root) c.args.shape.most c.args.shape.alive done.shape.most sparse c.requires.alive tree most)
    c.sweep.result c.sweep.ensures.tree c.sweep.ensures.most

pub returns-then-needs_whole-clause-alive : goal.returns-then-needs_whole-clause-alive
returns-then-needs_whole-clause-alive c =
    let t = tree_of c.args.nodes.now c.args.shape.root in
    IfOk-both (λ done. tree_of c.sweep.new.nodes done.shape.root ≡ whole t) (λ (done : Done). done.shape.alive ≡ c.args.shape.alive) (λ done. done.shape.alive ≡ live (inorder (tree_of c.sweep.new.nodes done.shape.root)))
    (λ done tree alive. alive_swept t (tree_of c.sweep.new.nodes done.shape.root) c.args.shape.alive done.shape.alive c.requires.alive tree alive)
    c.sweep.result c.sweep.ensures.tree c.sweep.ensures.alive

pub returns-then-needs_whole-clause-few : goal.returns-then-needs_whole-clause-few
returns-then-needs_whole-clause-few c =
    IfOk-both (λ (done : Done). done.shape.most ≡ c.args.shape.alive) (λ (done : Done). done.shape.alive ≡ c.args.shape.alive) (λ done. done.shape.most < 2 ^ 32)
    (λ done most _. omega (arith, most))
    c.sweep.result c.sweep.ensures.most c.sweep.ensures.alive

pub returns-then-needs_whole-clause-enough : goal.returns-then-needs_whole-clause-enough
returns-then-needs_whole-clause-enough c =
    let t = tree_of c.args.nodes.now c.args.shape.root in
    let test = tested c.args.shape.most c.args.shape.alive c.from.result c.from-2.result (inorder t) c.needs_whole.result c.requires.alive c.from.ensures c.from-2.ensures c.needs_whole.ensures in
    let sparse = is_sparse-true c.args.shape.most (inorder t) c.needs_whole.result test c.if-needs_whole.true in
    IfOk-both (λ (done : Done). done.shape.most ≡ c.args.shape.alive) (λ (done : Done). done.shape.alive ≡ c.args.shape.alive) _
    (λ done _ _ enough. apart (is_sparse c.args.shape.most (inorder t)) sparse enough)
    c.sweep.result c.sweep.ensures.most c.sweep.ensures.alive

pub of-change-requires : goal.of-change-requires
of-change-requires c = empty_normal c.new.result.items c.new-2.result.items c.new-3.result.items c.new.ensures.items c.new-2.ensures.items c.new-3.ensures.items

pub returns-clause-column : goal.returns-clause-column
returns-clause-column c =
    let t = tree_of c.args.nodes.now c.args.shape.root in
    let test = tested c.args.shape.most c.args.shape.alive c.from.result c.from-2.result (inorder t) c.needs_whole.result c.requires.alive c.from.ensures c.from-2.ensures c.needs_whole.ensures in
    pruned-enough t c.args.shape.most (is_sparse-false c.args.shape.most (inorder t) c.needs_whole.result test c.if-needs_whole.false)

pub returns-clause-sparse : goal.returns-clause-sparse
returns-clause-sparse c =
    let t = tree_of c.args.nodes.now c.args.shape.root in
    let test = tested c.args.shape.most c.args.shape.alive c.from.result c.from-2.result (inorder t) c.needs_whole.result c.requires.alive c.from.ensures c.from-2.ensures c.needs_whole.ensures in
    λ sparse. apart (is_sparse c.args.shape.most (inorder t)) sparse (is_sparse-false c.args.shape.most (inorder t) c.needs_whole.result test c.if-needs_whole.false)
