use Rattle.std.proofs.Common.{◌≡◌, ◌≤◌, length, arith, subst}
use Rattle.mope_base.specs.declared.body.Body.{Body}
use Rattle.tree_model.specs.Trees.{size}
use Rattle.tree_model.specs.Columns.{Column}
use Rattle.txn_core.proofs.Pasts.{no_of, room_of, row_fits}
use Rattle.txn_core.proofs.tests.table_takes_row.Goals as goal

pub returns-else-len-rank : goal.returns-else-len-rank
returns-else-len-rank c = λ yes.
    let room = room_of c.args.table.now c.full.result c.full.ensures.1 (no_of c.full.result yes) in
    let one : length c.args.table.now.shelf.columns ≡ 1 = omega (arith, c.columns.ensures.value, c.if-columns-ne1.false) in
    let here : c.args.rank ≤ size c.in-Some.tree.now.column.tree = omega (arith, c.len.ensures.value, c.if-len-rank.false) in
    let within = subst (λ (col : Column Body). c.args.rank ≤ size col.tree) c.in-Some.ensures.column here in
    row_fits c.args.table.now c.args.rank one within room.0 room.1
