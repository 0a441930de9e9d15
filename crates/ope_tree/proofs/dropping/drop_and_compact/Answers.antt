use Rattle.std.proofs.Common.{ap, ◌∙◌, sym, subst, arith}
use Rattle.mope_base.specs.Modes.{is_same_time}
use Rattle.mope_base.specs.declared.body.Body.{Body}
use Rattle.tree_model.specs.Trees.{Tree, inorder, size}
use Rattle.tree_model.specs.Items.{Item, one_less, live}
use Rattle.tree_model.specs.Columns.{Column}
use Rattle.tree_model.specs.ColumnLaws.{IsKept}
use Rattle.tree_model.proofs.Kept.{IsKept-drop}
use Rattle.tree_model.proofs.Removals.{size-change_tree}
use Rattle.ope_tree.specs.Nodes.{tree_of}
use Rattle.ope_tree.specs.Seen.{column_of}
use Rattle.ope_tree.proofs.RowDrops.{IsDropped, column_dropped, change_dropped, lowered_short}
use Rattle.ope_tree.proofs.dropping.drop_and_compact.Goals as goal

pub take_out_or_sweep-requires-clause-short : goal.take_out_or_sweep-requires-clause-short
take_out_or_sweep-requires-clause-short c =
    lowered_short (tree_of c.args.nodes.now c.args.shape.root) (tree_of c.lower_count.new.nodes c.in_ok-fewer.fewer.link) c.args.rank c.args.shape.most c.requires.sound.kept c.requires.sound.few c.in_ok-fewer.ensures.built.names

pub take_out_or_sweep-requires-clause-is_rank : goal.take_out_or_sweep-requires-clause-is_rank
take_out_or_sweep-requires-clause-is_rank c =
    let t = tree_of c.args.nodes.now c.args.shape.root in
    omega (arith, c.requires.is_rank, ap (λ (u : Tree (Item Body)). size u) c.in_ok-fewer.ensures.built.names, size-change_tree one_less t c.args.rank)

pub returns-clause-column : goal.returns-clause-column
returns-clause-column c =
    let is : IsDropped (is_same_time c.args.mode) (tree_of c.args.nodes.now c.args.shape.root) (tree_of c.lower_count.new.nodes c.in_ok-fewer.fewer.link) (tree_of c.take_out_or_sweep.new.nodes c.in_ok-done.done.shape.root) (tree_of c.compact.new.nodes c.in_ok-root.root) c.args.rank c.args.shape.most c.in_ok-done.done.shape.most =
    record { less = c.in_ok-fewer.ensures.built.names; tidy = c.in_ok-done.ensures.column; same = c.in_ok-root.ensures.same } in
    column_dropped (is_same_time c.args.mode) _ _ _ _ c.args.rank c.args.shape.most c.in_ok-done.done.shape.most is

pub returns-clause-change : goal.returns-clause-change
returns-clause-change c =
    change_dropped (is_same_time c.args.mode) (tree_of c.args.nodes.now c.args.shape.root) (tree_of c.lower_count.new.nodes c.in_ok-fewer.fewer.link) c.args.rank c.args.shape.most c.in_ok-done.done.change c.requires.is_rank c.in_ok-fewer.ensures.built.names c.in_ok-done.ensures.change

pub returns-clause-sound : goal.returns-clause-sound
returns-clause-sound c =
    let mode = is_same_time c.args.mode in
    let is : IsDropped mode (tree_of c.args.nodes.now c.args.shape.root) (tree_of c.lower_count.new.nodes c.in_ok-fewer.fewer.link) (tree_of c.take_out_or_sweep.new.nodes c.in_ok-done.done.shape.root) (tree_of c.compact.new.nodes c.in_ok-root.root) c.args.rank c.args.shape.most c.in_ok-done.done.shape.most =
    record { less = c.in_ok-fewer.ensures.built.names; tidy = c.in_ok-done.ensures.column; same = c.in_ok-root.ensures.same } in
    let column_is = column_dropped mode _ _ _ _ c.args.rank c.args.shape.most c.in_ok-done.done.shape.most is in
    record {
      is_link = c.in_ok-root.ensures.link;
      kept = subst (λ (d : Column Body). IsKept Body d) (sym column_is) (IsKept-drop mode c.args.rank (column_of c.args.nodes.now c.args.shape.root c.args.shape.most) c.requires.sound.kept);
      alive_is = c.in_ok-done.ensures.alive ∙ ap (λ (t : Tree (Item Body)). live (inorder t)) (sym c.in_ok-root.ensures.same);
      gone = λ e. absurd (cc);
      few = c.in_ok-done.ensures.few;
      fresh = λ e. absurd (cc);
    }
