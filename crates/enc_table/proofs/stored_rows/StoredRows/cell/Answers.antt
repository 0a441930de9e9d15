-- The row has a cell in each column.
use Rattle.std.proofs.Common.{◌≡◌, ◌<◌, ◌≤◌, List, length, get_or, ap, ◌∙◌, arith}
use Rattle.enc_table.specs.declared.columns.Column.{Column as Stored}
use Rattle.enc_table.specs.Stored.{no_column, stored_at}
use Rattle.enc_table.proofs.TableLooks.{there-some, cell-found}
use Rattle.enc_table.proofs.stored_rows.StoredRows.cell.Goals as goal

pub returns : goal.returns
unfolding stored_at
returns c =
    let cs = c.args.self.now.columns.items in
    let column = c.args.column in
    let itself : column ≤ column = omega arith in
    let same : length c.deref.result.now ≡ length cs = ap (λ (ds : List Stored). length ds) c.deref.ensures.value in
    let there : column < length c.deref.result.now = there-some column (length c.deref.result.now) c.in-Some-get.ensures.lookup.0 in
    let is : c.in-Some-get.stored.now ≡ stored_at cs column = c.in-Some-get.ensures.lookup.4 itself no_column ∙ ap (λ (ds : List Stored). get_or ds column no_column) c.deref.ensures.value in
    cell-found c.args.self.now.numbers cs c.args.row column c.in-Some.position c.copied.result c.in-Some-get.stored.now c.requires.held c.in-Some.ensures (omega (arith, there, same)) is (c.copied.ensures ∙ c.get-2.ensures)
