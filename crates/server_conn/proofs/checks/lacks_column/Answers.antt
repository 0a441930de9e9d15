use Rattle.std.proofs.Common.{ℕ, ap, leb}
use Rattle.server_conn.specs.Checks.{lacks_column}
use Rattle.server_conn.proofs.checks.lacks_column.Goals as goal

pub returns : goal.returns
unfolding lacks_column
returns c = ap (λ (n : ℕ). leb n c.args.column.0) c.width.ensures
