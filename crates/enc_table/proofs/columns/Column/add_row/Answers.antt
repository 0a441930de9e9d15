use Rattle.std.proofs.Common.{[], ◌∷◌, List, false, ap, ◌∙◌, sym, subst}
use Rattle.tree_model.specs.Columns.{Operation, Add, add}
use Rattle.mope_base.specs.declared.body.Body.{Body}
use Rattle.path_code.specs.Sums.{Sum}
use Rattle.code_changes.specs.Changes.{new_code}
use Rattle.std.proofs.Common.{map}
use Rattle.column_index.proofs.Fronting.{ok_of}
use Rattle.enc_table.specs.Stored.{codes_in, ranks_in}
use Rattle.enc_table.proofs.ColumnSteps.{rise_front, order_kept, staying_added, tree_short, added_among, absent_in_index, added_column}
use Rattle.enc_table.proofs.columns.Column.add_row.Goals as goal

pub carry-requires-clause-rise : goal.carry-requires-clause-rise
carry-requires-clause-rise c = rise_front c.args.numbers.now c.args.number c.requires.rise

pub carry-requires-clause-in_order : goal.carry-requires-clause-in_order
carry-requires-clause-in_order c =
    let operations : List (Operation Body) = Add c.args.place c.args.body ∷ [] in
    let before = c.args.self.now.tree.column in
    let are = staying_added false c.args.numbers.now c.args.place c.args.body c.args.self.now c.requires.held (tree_short c.insert_at.new.self.column (add c.args.place c.args.body before) c.in_ok-change.ensures.column c.in_ok-change.ensures.short) in
    order_kept false operations before (codes_in c.args.self.now.cells) (ranks_in c.args.self.now) c.moved.result.now are (c.moved.ensures.value ∙ ap (λ (s : Sum). s.moved) (c.in_ok-change.ensures.change false))

pub code_at_place-code-requires : goal.code_at_place-code-requires
code_at_place-code-requires c = added_among c.args.place c.args.body c.args.self.now.tree.column c.insert_at.new.self.column c.requires.is_place c.in_ok-change.ensures.column

pub insert-requires : goal.insert-requires
insert-requires c = absent_in_index c.carry.new.index (map (new_code c.moved.result.now) (codes_in c.args.self.now.cells)) c.args.numbers.now c.code_at_place-code.result c.args.number c.in_ok-carry.ensures.index c.requires.rise

pub returns-clause-column : goal.returns-clause-column
returns-clause-column c = λ same_time. record {
  is = added_column same_time c.args.numbers.now c.args.number c.args.place c.args.body c.args.self.now c.moved.result.now c.carry.new.cells c.push.new.self c.insert_at.new.self c.carry.new.index c.insert.new.self c.code_at_place-code.result
      c.requires.held c.requires.is_place c.in_ok-change.ensures.column c.in_ok-change.ensures.fresh c.in_ok-change.ensures.short
      (c.moved.ensures.value ∙ ap (λ (s : Sum). s.moved) (c.in_ok-change.ensures.change same_time)) c.in_ok-carry.ensures.cells c.in_ok-carry.ensures.index
      c.code_at_place-code.ensures (ok_of c.push.result c.push.ensures.ok (sym c.is_err.ensures.value ∙ c.if-is_err.false)) c.in_ok-insert.ensures.ok;
}
