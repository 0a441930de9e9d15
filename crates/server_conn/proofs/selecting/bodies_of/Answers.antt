-- Each row gives its bodies.
use Rattle.server_conn.proofs.Chosen.{rows-more}
use Rattle.server_conn.proofs.selecting.bodies_of.Goals as goal

pub rows-preserved : goal.rows-preserved
rows-preserved c =
    rows-more c.args.table.now.shelf c.args.columns.now c.args.rows.now c.rows.row-index c.rows.bodies.items c.push_row.new.bodies.items c.rows-test.true c.rows.invariant c.in_ok-push_row.ensures
