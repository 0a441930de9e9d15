use Rattle.std.proofs.Common.{Bor}
use Rattle.enc_table.specs.Seen.{Seen as Table}
use Rattle.server_conn.specs.Inside.{held_in, IsTableOf}
use Rattle.server_conn.proofs.Judging.{full-is}
use Rattle.server_conn.proofs.Seeing.{some-at}
use Rattle.server_conn.proofs.checks.is_full.Goals as goal

pub returns : goal.returns
returns c =
    let found = some-at c.table.result (λ (f : Bor Table). IsTableOf (held_in c.args.txn.now) c.args.table.0 f.now) c.unwrap-found.result c.unwrap-found.ensures c.table.ensures.value in
    full-is (held_in c.args.txn.now) c.args.table c.unwrap-found.result.now c.full.result found c.full.ensures.0 c.full.ensures.1
