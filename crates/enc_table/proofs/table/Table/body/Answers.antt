-- The cell found tells what the shelf's row has.
use Rattle.std.proofs.Common.{◌≡◌, None, Some, subst}
use Rattle.enc_table.specs.Rows.{body_at}
use Rattle.enc_table.specs.Seen.{Seen}
use Rattle.enc_table.proofs.TableSeen.{rise-of}
use Rattle.enc_table.proofs.TableLooks.{no-body, has-body}
use Rattle.enc_table.proofs.table.Table.body.Goals as goal

pub cell-requires-clause-rise : goal.cell-requires-clause-rise
cell-requires-clause-rise c = rise-of _ _ _ _ _ _ _ c.self.invariant

pub returns-in-None : goal.returns-in-None
returns-in-None c =
    let i = c.self.inside in
    subst (λ (u : Seen). None ≡ body_at c.args.row c.args.column.0 u.shelf) c.self.view_is
    (no-body i.rows.numbers i.next i.rows.columns.items c.args.row c.args.column.0 c.self.invariant.held c.in-None.ensures)

pub returns-in-Some : goal.returns-in-Some
returns-in-Some c =
    let i = c.self.inside in
    subst (λ (u : Seen). Some c.in-Some.cell.body ≡ body_at c.args.row c.args.column.0 u.shelf) c.self.view_is
    (has-body i.rows.numbers i.next i.rows.columns.items c.args.row c.args.column.0 c.in-Some.cell c.self.invariant.held (rise-of _ _ _ _ _ _ _ c.self.invariant) c.in-Some.ensures)
