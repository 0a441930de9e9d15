-- There are at most 8 columns.
use Rattle.std.proofs.Common.{◌≡◌, ◌≤◌, length, arith, ◌∙◌}
use Rattle.enc_table.proofs.TableSeen.{width-seen, narrow-of}
use Rattle.enc_table.proofs.table.Table.columns.Goals as goal

pub overflow_cast-result : goal.overflow_cast-result
overflow_cast-result c =
    let narrow : length c.self.inside.rows.columns.items ≤ 8 = narrow-of _ _ _ _ _ _ _ c.self.invariant in
    omega (arith, narrow, c.len.ensures, c.self.inside.rows.columns.ok.0)

pub returns-clause-value : goal.returns-clause-value
returns-clause-value c =
    let wide : length c.self.inside.rows.columns.items ≡ length c.args.self.now.shelf.columns = width-seen _ _ _ _ _ _ _ _ c.self.view_is in
    omega (arith, wide, c.len.ensures, c.self.inside.rows.columns.ok.0)
