use Rattle.std.proofs.Common.{[], ◌∷◌, List, false, ap, ◌∙◌}
use Rattle.tree_model.specs.Columns.{Operation, Lay, lay}
use Rattle.mope_base.specs.declared.body.Body.{Body}
use Rattle.path_code.specs.Sums.{Sum}
use Rattle.enc_table.specs.Stored.{codes_in, ranks_in}
use Rattle.enc_table.proofs.ColumnSteps.{order_kept, staying_laid, tree_short, laid_column}
use Rattle.enc_table.proofs.columns.Column.lay.Goals as goal

pub carry-requires-clause-in_order : goal.carry-requires-clause-in_order
carry-requires-clause-in_order c =
    let operations : List (Operation Body) = Lay ∷ [] in
    let before = c.args.self.now.tree.column in
    let are = staying_laid false c.args.numbers.now c.args.self.now c.requires.held (tree_short c.rebuild.new.self.column (lay before) c.in_ok-change.ensures.column c.in_ok-change.ensures.short) in
    order_kept false operations before (codes_in c.args.self.now.cells) (ranks_in c.args.self.now) c.moved.result.now are (c.moved.ensures.value ∙ ap (λ (s : Sum). s.moved) (c.in_ok-change.ensures.change false))

pub returns-clause-column : goal.returns-clause-column
returns-clause-column c = λ same_time. record {
  is = laid_column same_time c.args.numbers.now c.args.self.now c.moved.result.now c.carry.new.cells c.rebuild.new.self c.carry.new.index
      c.requires.held c.in_ok-change.ensures.column c.in_ok-change.ensures.fresh c.in_ok-change.ensures.short
      (c.moved.ensures.value ∙ ap (λ (s : Sum). s.moved) (c.in_ok-change.ensures.change same_time)) c.in_ok-carry.ensures.cells c.in_ok-carry.ensures.index;
}
