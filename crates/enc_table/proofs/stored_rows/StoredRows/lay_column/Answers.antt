-- One column is changed, and the others stay.
use Rattle.std.proofs.Common.{◌≡◌, Bool, [], ◌∷◌, ap, sym, subst, ◌∙◌, set}
use Rattle.path_code.specs.Sums.{Sum, sum_of}
use Rattle.tree_model.specs.Columns.{Lay}
use Rattle.enc_table.specs.declared.columns.Column.{Column as Stored}
use Rattle.enc_table.specs.Stored.{stored_at}
use Rattle.enc_table.specs.Held.{IsHeld, IsLaid}
use Rattle.enc_table.proofs.TableLists.{stored-read, stored-set_same}
use Rattle.enc_table.proofs.stored_rows.StoredRows.lay_column.Goals as goal

pub lay-requires-clause-held : goal.lay-requires-clause-held
lay-requires-clause-held c =
    subst (IsHeld c.args.self.now.numbers) (stored-read c.args.self.now.columns.items c.args.at c.index_mut.result.now c.requires.within c.index_mut.ensures.value) c.requires.held

pub returns-in-Ok-clause-others : goal.returns-in-Ok-clause-others
returns-in-Ok-clause-others c =
    let first = c.args.self.now.columns.items in
    ap (λ (d : Stored). set first c.args.at d) (sym (stored-set_same first c.args.at c.lay.new.self c.requires.within))

pub returns-in-Ok-clause-column : goal.returns-in-Ok-clause-column
returns-in-Ok-clause-column c = λ same_time.
    let first = c.args.self.now.columns.items in
    let here = stored-read first c.args.at c.index_mut.result.now c.requires.within c.index_mut.ensures.value in
    subst (λ (d : Stored). IsLaid same_time c.args.self.now.numbers (stored_at first c.args.at) d) (sym (stored-set_same first c.args.at c.lay.new.self c.requires.within))
    (subst (λ (b : Stored). IsLaid same_time c.args.self.now.numbers b c.lay.new.self) (sym here) (c.in-Ok.ensures.column same_time))

pub returns-in-Ok-clause-change : goal.returns-in-Ok-clause-change
returns-in-Ok-clause-change c = λ same_time.
    let first = c.args.self.now.columns.items in
    let here = stored-read first c.args.at c.index_mut.result.now c.requires.within c.index_mut.ensures.value in
    c.in-Ok.ensures.change same_time ∙ ap (λ (b : Stored). sum_of same_time (Lay ∷ []) b.tree.column) (sym here)
