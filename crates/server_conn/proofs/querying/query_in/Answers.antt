-- The table is there, and the places fit it.
use Rattle.std.proofs.Common.{◌∙◌, ◌≡◌, ◌<◌, ◌≤◌, ℕ, List, length, ap, sym, subst, refl, IfOk, Bor}
use Rattle.std.specs.List.{All}
use Rattle.mope_base.specs.declared.body.Body.{Body}
use Rattle.table_model.specs.Stores.{Shelf}
use Rattle.enc_table.specs.Seen.{Seen as Table}
use Rattle.server_conn.specs.Inside.{held_in, IsTableOf}
use Rattle.table_model.specs.Operations.{shelf_at}
use Rattle.server_conn.specs.declared.txn.Mark.{Mark as Placed}
use Rattle.server_conn.specs.Inside.{shelves_in}
use Rattle.server_conn.specs.Asking.{FitsTable, codes_in, query_by}
use Rattle.server_conn.proofs.Seeing.{some-at}
use Rattle.server_conn.proofs.Replying.{may-query}
use Rattle.server_conn.proofs.querying.query_in.Goals as goal

pub unwrap-table-requires : goal.unwrap-table-requires
unwrap-table-requires c = c.table.ensures.there.1 (may-query c.args.txn.now c.args.asked.now c.requires.txn c.requires.rules c.requires.checked).there

pub query_of-requires : goal.query_of-requires
unfolding held_in
query_of-requires c =
    let of = some-at c.table.result (λ (found : Bor Table). IsTableOf (held_in c.args.txn.now) c.args.asked.now.table.0 found.now) c.unwrap-table.result c.unwrap-table.ensures c.table.ensures.value in
    let may = may-query c.args.txn.now c.args.asked.now c.requires.txn c.requires.rules c.requires.checked in
    subst (λ (s : Shelf Body). FitsTable s c.as_slice.result.now c.args.asked.now.conds) (sym of.shelf_is)
    (subst (λ (marks : List Placed). FitsTable (shelf_at (shelves_in c.args.txn.now) c.args.asked.now.table.0) marks c.args.asked.now.conds) (sym c.as_slice.ensures.value) may.fits)

pub returns : goal.returns
returns c =
    let of = some-at c.table.result (λ (found : Bor Table). IsTableOf (held_in c.args.txn.now) c.args.asked.now.table.0 found.now) c.unwrap-table.result c.unwrap-table.ensures c.table.ensures.value in
    c.in_ok-query.ensures
    ∙ ap (λ (s : Shelf Body). query_by c.args.asked.now (codes_in s c.as_slice.result.now)) of.shelf_is
    ∙ ap (λ (marks : List Placed). query_by c.args.asked.now (codes_in (shelf_at (held_in c.args.txn.now).shelves c.args.asked.now.table.0) marks)) c.as_slice.ensures.value
