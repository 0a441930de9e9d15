-- One row after the other is deleted, or all is gone.
use Rattle.std.proofs.Common.{◌≡◌, ◌+◌, ◌<◌, ℕ, List, [], length, get_or, replicate, ap, ◌∙◌, sym, subst, arith, add-one}
use Rattle.enc_table.specs.Seen.{Seen, spent_table}
use Rattle.enc_table.proofs.TableSeen.{width-seen}
use Rattle.enc_table.proofs.TableOpen.{spent-stays}
use Rattle.enc_table.proofs.TableDeleting.{DeletedTo, deleted-none, live-now, deleted-step, spent-later}
use Rattle.enc_table.proofs.table.Table.delete_rows.Goals as goal

pub returns-then-self-clause-spent : goal.returns-then-self-clause-spent
returns-then-self-clause-spent c = spent-stays _ _ _ _ _ _ _ _ c.self.invariant c.self.view_is c.if-self.true

pub rows-init : goal.rows-init
rows-init c =
    let wide : length c.self.inside.rows.columns.items ≡ length c.args.self.now.shelf.columns = width-seen _ _ _ _ _ _ _ _ c.self.view_is in
    let many : c.len.result ≡ length c.args.self.now.shelf.columns = omega (arith, wide, c.len.ensures, c.self.inside.rows.columns.ok.0) in
    deleted-none c.args.self.now c.args.rows.now c.in-Ok.changes.items (c.in-Ok.ensures ∙ ap (λ (n : ℕ). replicate n []) many) c.requires.live

pub delete_row-requires-clause-live : goal.delete_row-requires-clause-live
delete_row-requires-clause-live c = live-now c.args.self.now c.rows.self c.args.rows.now c.rows.row-index c.rows.changes.items c.rows.invariant c.rows-test.true

pub returns-in-Err-clause-spent : goal.returns-in-Err-clause-spent
returns-in-Err-clause-spent c = c.in-Err.ensures.spent ∙ spent-later c.args.self.now c.rows.self c.args.rows.now c.rows.row-index c.rows.changes.items c.rows.invariant

pub rows-preserved : goal.rows-preserved
rows-preserved c =
    subst (λ (n : ℕ). DeletedTo c.args.self.now c.delete_row.new.self c.args.rows.now n c.delete_row.new.changes.items) (sym (add-one c.rows.row-index))
    (deleted-step c.args.self.now c.rows.self c.args.rows.now c.rows.row-index c.rows.changes.items c.delete_row.new.self c.delete_row.new.changes.items c.rows.invariant c.requires.rise c.rows-test.true c.in-Ok-delete_row.ensures.table c.in-Ok-delete_row.ensures.changes)
