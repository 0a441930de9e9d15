use Rattle.std.proofs.Common.{◌<◌, ℕ, ap, ◌∙◌, sym, subst}
use Rattle.mope_base.specs.Modes.{is_same_time}
use Rattle.path_code.specs.Sums.{Sum}
use Rattle.ope_tree.specs.Listed.{count_at}
use Rattle.tree_model.specs.Columns.{apply_all}
use Rattle.enc_table.specs.Held.{drop_at}
use Rattle.enc_table.specs.Stored.{codes_in, ranks_in}
use Rattle.std.proofs.Common.{remove}
use Rattle.enc_table.proofs.ColumnLists.{rise_of_inserted}
use Rattle.enc_table.proofs.ColumnSteps.{dropped_code, dropped_rank, dropped_index, dropped_many, dropped_after, dropped_moved, dropped_column, staying_dropped, order_kept, tree_short}
use Rattle.std.specs.Prelude.{insert}
use Rattle.enc_table.proofs.columns.Column.drop_row.Goals as goal

pub rank_of-rank-requires-clause-code : goal.rank_of-rank-requires-clause-code
rank_of-rank-requires-clause-code c = dropped_code (insert c.args.numbers.now c.args.position c.args.number) c.args.self.now c.args.position c.in-Ok.cell c.requires.held c.in-Ok.ensures.item

pub drop_one-requires-clause-has_row : goal.drop_one-requires-clause-has_row
drop_one-requires-clause-has_row c =
    let is = c.rank_of-rank.ensures.rank ∙ dropped_rank c.args.numbers.now c.args.position c.args.number c.args.self.now c.in-Ok.cell c.in-Ok.ensures.item in
    subst (λ (rank : ℕ). 0 < count_at c.args.self.now.tree.column rank) (sym is) c.requires.has_row

pub carry-requires-clause-indexed : goal.carry-requires-clause-indexed
carry-requires-clause-indexed c =
    dropped_index c.args.numbers.now c.args.position c.args.number c.args.self.now c.in-Ok.cell c.remove.new.self c.remove-2.new.self c.requires.within c.requires.held c.requires.rise c.in-Ok.ensures.item c.in-Ok.ensures.ok c.in_ok-remove.ensures.ok

pub carry-requires-clause-many : goal.carry-requires-clause-many
carry-requires-clause-many c = dropped_many c.args.numbers.now c.args.position c.args.number c.args.self.now c.remove.new.self c.requires.within c.requires.held c.in-Ok.ensures.ok

pub carry-requires-clause-rise : goal.carry-requires-clause-rise
carry-requires-clause-rise c = rise_of_inserted c.args.numbers.now c.args.position c.args.number c.requires.within c.requires.rise

pub carry-requires-clause-in_order : goal.carry-requires-clause-in_order
carry-requires-clause-in_order c =
    let same_time = is_same_time c.args.mode in
    let operations = drop_at c.args.self.now c.args.position in
    let before = c.args.self.now.tree.column in
    let is = c.rank_of-rank.ensures.rank ∙ dropped_rank c.args.numbers.now c.args.position c.args.number c.args.self.now c.in-Ok.cell c.in-Ok.ensures.item in
    let after = dropped_after same_time c.args.self.now c.args.position c.rank_of-rank.result c.drop_one.new.self.column is c.in_ok-change.ensures.column in
    let moved = dropped_moved same_time c.args.self.now c.args.position c.rank_of-rank.result c.in_ok-change.change is c.in_ok-change.ensures.change in
    let are = staying_dropped same_time c.args.numbers.now c.args.position c.args.number c.args.self.now c.remove.new.self c.requires c.in-Ok.ensures.ok (tree_short c.drop_one.new.self.column (apply_all same_time operations before) after c.in_ok-change.ensures.short) in
    order_kept same_time operations before (codes_in c.remove.new.self) (remove (ranks_in c.args.self.now) c.args.position) c.moved.result.now are (c.moved.ensures.value ∙ ap (λ (s : Sum). s.moved) moved)

pub returns-clause-column : goal.returns-clause-column
returns-clause-column c =
    let same_time = is_same_time c.args.mode in
    let is = c.rank_of-rank.ensures.rank ∙ dropped_rank c.args.numbers.now c.args.position c.args.number c.args.self.now c.in-Ok.cell c.in-Ok.ensures.item in
    let after = dropped_after same_time c.args.self.now c.args.position c.rank_of-rank.result c.drop_one.new.self.column is c.in_ok-change.ensures.column in
    let moved = dropped_moved same_time c.args.self.now c.args.position c.rank_of-rank.result c.in_ok-change.change is c.in_ok-change.ensures.change in
    record {
      is = dropped_column same_time c.args.numbers.now c.args.position c.args.number c.args.self.now c.moved.result.now c.remove.new.self c.carry.new.cells c.drop_one.new.self c.carry.new.index
          c.requires c.in-Ok.ensures.ok after c.in_ok-change.ensures.fresh c.in_ok-change.ensures.short (c.moved.ensures.value ∙ ap (λ (s : Sum). s.moved) moved) c.in_ok-carry.ensures.cells c.in_ok-carry.ensures.index;
    }

pub returns-clause-change : goal.returns-clause-change
returns-clause-change c =
    let is = c.rank_of-rank.ensures.rank ∙ dropped_rank c.args.numbers.now c.args.position c.args.number c.args.self.now c.in-Ok.cell c.in-Ok.ensures.item in
    dropped_moved (is_same_time c.args.mode) c.args.self.now c.args.position c.rank_of-rank.result c.in_ok-change.change is c.in_ok-change.ensures.change
