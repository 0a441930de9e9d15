use Rattle.std.proofs.Common.{◌≡◌, ◌<◌, ◌^◌, ◌&&◌, slice_get, ◌∙◌, sym}
use Rattle.mope_base.specs.Modes.{is_same_time}
use Rattle.tree_model.specs.Trees.{inorder}
use Rattle.tree_model.specs.Items.{live, is_dead}
use Rattle.tree_model.specs.Removal.{remove_tree}
use Rattle.tree_model.specs.Columns.{pruned, taken_out}
use Rattle.code_changes.specs.Removal.{removal_sum}
use Rattle.code_changes.proofs.Removing.{pruned-ordinary}
use Rattle.ope_tree.specs.Dropped.{IsDropChange}
use Rattle.ope_tree.specs.declared.done.Done.{Done}
use Rattle.ope_tree.specs.Nodes.{tree_of}
use Rattle.ope_tree.specs.Seen.{column_of}
use Rattle.ope_tree.proofs.Sweeps.{IfOk-both}
use Rattle.ope_tree.proofs.Tidying.{column_withdrawn, live_withdrawn, change_withdrawn}
use Rattle.ope_tree.proofs.dropping.take_out_or_sweep.Goals as goal

pub returns-then-goes_alone-clause-column : goal.returns-then-goes_alone-clause-column
returns-then-goes_alone-clause-column c =
    let t = tree_of c.args.nodes.now c.args.shape.root in
    let m = is_same_time c.args.mode in
    let goes = sym c.goes_alone.ensures ∙ c.if-goes_alone.true in
    IfOk-both (λ done. tree_of c.take_out.new.nodes done.shape.root ≡ remove_tree t c.args.rank) (λ (done : Done). done.shape.most ≡ c.args.shape.most) (λ done. column_of c.take_out.new.nodes done.shape.root done.shape.most ≡ pruned (taken_out (m && is_dead (slice_get (inorder t) c.args.rank)) t c.args.rank) c.args.shape.most)
    (λ done tree most. column_withdrawn m t (tree_of c.take_out.new.nodes done.shape.root) c.args.rank c.args.shape.most done.shape.most goes tree most)
    c.take_out.result c.take_out.ensures.tree c.take_out.ensures.most

pub returns-then-goes_alone-clause-alive : goal.returns-then-goes_alone-clause-alive
returns-then-goes_alone-clause-alive c =
    let t = tree_of c.args.nodes.now c.args.shape.root in
    let m = is_same_time c.args.mode in
    let goes = sym c.goes_alone.ensures ∙ c.if-goes_alone.true in
    IfOk-both (λ done. tree_of c.take_out.new.nodes done.shape.root ≡ remove_tree t c.args.rank) (λ (done : Done). done.shape.alive ≡ c.args.shape.alive) (λ done. done.shape.alive ≡ live (inorder (tree_of c.take_out.new.nodes done.shape.root)))
    (λ done tree alive. live_withdrawn m t (tree_of c.take_out.new.nodes done.shape.root) c.args.rank c.args.shape.most c.args.shape.alive done.shape.alive goes c.requires.alive tree alive)
    c.take_out.result c.take_out.ensures.tree c.take_out.ensures.alive

pub returns-then-goes_alone-clause-change : goal.returns-then-goes_alone-clause-change
returns-then-goes_alone-clause-change c =
    let t = tree_of c.args.nodes.now c.args.shape.root in
    let m = is_same_time c.args.mode in
    let goes = sym c.goes_alone.ensures ∙ c.if-goes_alone.true in
    IfOk-both (λ (done : Done). done.change ≡ removal_sum t c.args.rank) (λ (done : Done). done.shape.most ≡ c.args.shape.most) (λ done. IsDropChange m c.args.shape.most c.args.rank t done.change)
    (λ done change _. change_withdrawn m t c.args.rank c.args.shape.most done.change goes change)
    c.take_out.result c.take_out.ensures.change c.take_out.ensures.most

pub returns-clause-column : goal.returns-clause-column
returns-clause-column c =
    let t = tree_of c.args.nodes.now c.args.shape.root in
    let m = is_same_time c.args.mode in
    let stays = sym c.goes_alone.ensures ∙ c.if-goes_alone.false in
    IfOk-both (λ done. column_of c.sweep_if_sparse.new.nodes done.shape.root done.shape.most ≡ pruned t c.args.shape.most) (λ (done : Done). done.shape.most < 2 ^ 32) (λ done. column_of c.sweep_if_sparse.new.nodes done.shape.root done.shape.most ≡ pruned (taken_out (m && is_dead (slice_get (inorder t) c.args.rank)) t c.args.rank) c.args.shape.most)
    (λ done column _. column ∙ sym (pruned-ordinary m t c.args.rank c.args.shape.most stays))
    c.sweep_if_sparse.result c.sweep_if_sparse.ensures.column c.sweep_if_sparse.ensures.few
