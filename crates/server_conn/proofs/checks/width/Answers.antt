use Rattle.std.proofs.Common.{length, ap, ◌∙◌, Bor}
use Rattle.mope_base.specs.declared.body.Body.{Body}
use Rattle.table_model.specs.Stores.{Shelf}
use Rattle.enc_table.specs.Seen.{Seen as Table}
use Rattle.server_conn.specs.Checks.{own}
use Rattle.server_conn.specs.Inside.{held_in, IsTableOf}
use Rattle.server_conn.proofs.Seeing.{some-at}
use Rattle.server_conn.proofs.checks.width.Goals as goal

pub returns : goal.returns
unfolding own
returns c =
    let found = some-at c.table.result (λ (f : Bor Table). IsTableOf (held_in c.args.txn.now) c.args.table.0 f.now) c.unwrap-found.result c.unwrap-found.ensures c.table.ensures.value in
    c.columns.ensures.value ∙ ap (λ (s : Shelf Body). length s.columns) found.shelf_is
