-- The cells of the shelf's rows in a column are the stored ones.
use Rattle.std.proofs.Common.{◌≡◌, ◌<◌, List, length, take, drop, ap, ◌∙◌, sym, arith}
use Rattle.enc_table.specs.declared.cell.Cell.{Cell}
use Rattle.enc_table.specs.declared.columns.Column.{Column as Stored}
use Rattle.enc_table.specs.Rows.{cells_at}
use Rattle.enc_table.specs.Seen.{Seen}
use Rattle.enc_table.specs.Stored.{stored_at}
use Rattle.enc_table.proofs.TableLists.{stored-read}
use Rattle.enc_table.proofs.TableSeen.{width-seen, many-seen}
use Rattle.enc_table.proofs.TableLooks.{cells-seen}
use Rattle.enc_table.proofs.table.Table.cells_from.Goals as goal

pub index-requires : goal.index-requires
index-requires c =
    let wide : length c.self.inside.rows.columns.items ≡ length c.args.self.now.shelf.columns = width-seen _ _ _ _ _ _ _ _ c.self.view_is in
    omega (arith, wide, c.requires, c.self.inside.rows.columns.ok.0)

pub returns-clause-run : goal.returns-clause-run
returns-clause-run c =
    let i = c.self.inside in
    let column = c.args.column.0 in
    let wide : length i.rows.columns.items ≡ length c.args.self.now.shelf.columns = width-seen _ _ _ _ _ _ _ _ c.self.view_is in
    let within : column < length i.rows.columns.items = omega (arith, wide, c.requires) in
    let is : stored_at i.rows.columns.items column ≡ c.index.result.now = stored-read i.rows.columns.items column c.index.result.now within c.index.ensures in
    c.run_at.ensures.run
    ∙ ap (λ (cells : List Cell). take (length c.run_at.result.now) (drop c.args.position cells))
    (ap (λ (d : Stored). d.cells) (sym is) ∙ sym (cells-seen i.rows.numbers i.next i.rows.columns.items column c.self.invariant.held within) ∙ ap (λ (u : Seen). cells_at column u.shelf) c.self.view_is)

pub returns-clause-some : goal.returns-clause-some
returns-clause-some c = λ h.
    let i = c.self.inside in
    let column = c.args.column.0 in
    let wide : length i.rows.columns.items ≡ length c.args.self.now.shelf.columns = width-seen _ _ _ _ _ _ _ _ c.self.view_is in
    let within : column < length i.rows.columns.items = omega (arith, wide, c.requires) in
    let is : stored_at i.rows.columns.items column ≡ c.index.result.now = stored-read i.rows.columns.items column c.index.result.now within c.index.ensures in
    let many : length i.rows.numbers ≡ length c.args.self.now.shelf.kept = many-seen _ _ _ _ _ _ _ _ c.self.invariant c.self.view_is in
    let cells : length (stored_at i.rows.columns.items column).cells ≡ length i.rows.numbers = (c.self.invariant.held.each column within).many in
    let same : length (stored_at i.rows.columns.items column).cells ≡ length c.index.result.now.cells = ap (λ (d : Stored). length d.cells) is in
    c.run_at.ensures.some (omega (arith, h, many, cells, same))
