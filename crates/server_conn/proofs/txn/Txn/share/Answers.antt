-- The column's tree in the table that the transaction sees.
use Rattle.std.proofs.Common.{◌∙◌, ◌≡◌, ◌<◌, Bor, length, ap, sym, subst}
use Rattle.mope_base.specs.declared.body.Body.{Body}
use Rattle.table_model.specs.Stores.{Shelf}
use Rattle.table_model.specs.Soundness.{column_at}
use Rattle.enc_table.specs.Seen.{Seen as Table}
use Rattle.ope_tree.specs.Seen.{Seen as Tree}
use Rattle.server_conn.specs.Inside.{held_in, IsTableOf}
use Rattle.server_conn.proofs.Seeing.{some-at}
use Rattle.server_conn.proofs.txn.Txn.share.Goals as goal

pub unwrap-requires : goal.unwrap-requires
unfolding held_in
unwrap-requires c =
    let found = some-at c.table.result (λ (f : Bor Table). IsTableOf (held_in c.args.self.now) c.args.table.0 f.now) c.unwrap-found.result c.unwrap-found.ensures c.table.ensures.value in
    c.tree.ensures.there.1 (subst (λ (s : Shelf Body). c.args.column.0 < length s.columns) (sym found.shelf_is) c.requires.column)

pub returns : goal.returns
unfolding held_in
returns c =
    let found = some-at c.table.result (λ (f : Bor Table). IsTableOf (held_in c.args.self.now) c.args.table.0 f.now) c.unwrap-found.result c.unwrap-found.ensures c.table.ensures.value in
    let column = some-at c.tree.result (λ (t : Bor Tree). t.now.column ≡ column_at c.unwrap-found.result.now.shelf.columns c.args.column.0) c.unwrap.result c.unwrap.ensures c.tree.ensures.column in
    c.in_ok-share.ensures.column ∙ column ∙ ap (λ (s : Shelf Body). column_at s.columns c.args.column.0) found.shelf_is
