use Rattle.std.proofs.Common.{ℕ, ap, leb}
use Rattle.server_conn.specs.Checks.{lacks_table}
use Rattle.server_conn.specs.Inside.{held_in}
use Rattle.server_conn.proofs.checks.lacks_table.Goals as goal

pub returns : goal.returns
unfolding lacks_table held_in
returns c = ap (λ (n : ℕ). leb n c.args.table.0) c.tables.ensures
