-- One column is laid anew, or all is gone.
use Rattle.std.proofs.Common.{◌≡◌, ◌<◌, Bool, List, [], ◌∷◌, length, ap, ◌∙◌, sym, subst, arith}
use Rattle.mope_base.specs.declared.body.Body.{Body}
use Rattle.mope_base.specs.Modes.{is_same_time}
use Rattle.tree_model.specs.Columns.{Column, Lay}
use Rattle.path_code.specs.Sums.{Sum, sum_of}
use Rattle.table_model.specs.Changes.{lay_column}
use Rattle.table_model.specs.Soundness.{column_at}
use Rattle.enc_table.specs.Seen.{Seen, spent_table, with_shelf}
use Rattle.enc_table.specs.Stored.{stored_at, shelf_in}
use Rattle.enc_table.specs.Fields.{AreFields, seen_in}
use Rattle.enc_table.proofs.TableLists.{trees-at}
use Rattle.enc_table.proofs.TableSeen.{spent-fields, spent-seen, width-seen, rise-of, lays-column}
use Rattle.enc_table.proofs.TableOpen.{spent-stays}
use Rattle.enc_table.proofs.table.Table.rebuild_column.Goals as goal

pub returns-then-self-clause-spent : goal.returns-then-self-clause-spent
returns-then-self-clause-spent c = spent-stays _ _ _ _ _ _ _ _ c.self.invariant c.self.view_is c.if-self.true

pub lay_column-requires-clause-within : goal.lay_column-requires-clause-within
lay_column-requires-clause-within c =
    let wide : length c.self.inside.rows.columns.items ≡ length c.args.self.now.shelf.columns = width-seen _ _ _ _ _ _ _ _ c.self.view_is in
    omega (arith, c.requires, wide)

pub lay_column-requires-clause-held : goal.lay_column-requires-clause-held
lay_column-requires-clause-held c =
    let wide : length c.self.inside.rows.columns.items ≡ length c.args.self.now.shelf.columns = width-seen _ _ _ _ _ _ _ _ c.self.view_is in
    c.self.invariant.held.each c.args.column.0 (omega (arith, c.requires, wide))

pub lay_column-requires-clause-rise : goal.lay_column-requires-clause-rise
lay_column-requires-clause-rise c = rise-of _ _ _ _ _ _ _ c.self.invariant

pub invariant_of-self : goal.invariant_of-self
invariant_of-self c =
    let i = c.self.inside in
    let same_time = is_same_time i.mode in
    let after = c.lay_column.new.self.columns.items in
    subst (λ (ns : List _). AreFields same_time i.limit i.stamps i.next ns after i.spent) (sym c.in-Ok.ensures.numbers)
    (lays-column same_time i.limit i.stamps i.next i.rows.numbers i.rows.columns.items i.spent c.args.column.0 (stored_at after c.args.column.0) after c.self.invariant c.if-self.false c.in-Ok.ensures.others (c.in-Ok.ensures.column same_time) c.lay_column.ensures.many).fields

pub invariant_of-self-in-Err : goal.invariant_of-self-in-Err
invariant_of-self-in-Err c =
    let i = c.self.inside in
    spent-fields (is_same_time i.mode) i.limit i.stamps i.next i.rows.numbers i.rows.columns.items i.spent c.lay_column.new.self.numbers c.lay_column.new.self.columns.items c.self.invariant c.in-Err.ensures.no_numbers c.in-Err.ensures.no_columns

pub returns-in-Ok-clause-table : goal.returns-in-Ok-clause-table
returns-in-Ok-clause-table c =
    let i = c.self.inside in
    let same_time = is_same_time i.mode in
    let after = c.lay_column.new.self.columns.items in
    let column = c.args.column.0 in
    subst (λ (u : Seen). seen_in same_time i.limit i.stamps i.next c.lay_column.new.self.numbers after i.spent ≡ with_shelf (lay_column u.same_time column u.shelf) u) c.self.view_is
    (ap (λ (ns : List _). seen_in same_time i.limit i.stamps i.next ns after i.spent) c.in-Ok.ensures.numbers
    ∙ (lays-column same_time i.limit i.stamps i.next i.rows.numbers i.rows.columns.items i.spent column (stored_at after column) after c.self.invariant c.if-self.false c.in-Ok.ensures.others (c.in-Ok.ensures.column same_time) c.lay_column.ensures.many).seen)

pub returns-in-Ok-clause-change : goal.returns-in-Ok-clause-change
unfolding shelf_in
returns-in-Ok-clause-change c =
    let i = c.self.inside in
    let same_time = is_same_time i.mode in
    subst (λ (u : Seen). c.in-Ok.change ≡ sum_of u.same_time (Lay ∷ []) (column_at u.shelf.columns c.args.column.0)) c.self.view_is
    (c.in-Ok.ensures.change same_time ∙ ap (λ (d : Column Body). sum_of same_time (Lay ∷ []) d) (sym (trees-at i.rows.columns.items c.args.column.0)))

pub returns-in-Err-clause-spent : goal.returns-in-Err-clause-spent
returns-in-Err-clause-spent c =
    let i = c.self.inside in
    spent-seen (is_same_time i.mode) i.limit i.stamps i.next i.rows.numbers i.rows.columns.items i.spent c.lay_column.new.self.numbers c.lay_column.new.self.columns.items c.in-Err.ensures.no_numbers c.in-Err.ensures.no_columns
    ∙ ap spent_table c.self.view_is
