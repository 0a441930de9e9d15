-- The rows within the bounds.
use Rattle.std.proofs.Common.{◌∙◌, ◌≡◌, ◌<◌, ◌≤◌, ℕ, List, length, ap, sym, subst, refl, IfOk, Bor}
use Rattle.std.specs.List.{All}
use Rattle.mope_base.specs.declared.body.Body.{Body}
use Rattle.table_model.specs.Stores.{Shelf}
use Rattle.enc_table.specs.Seen.{Seen as Table}
use Rattle.server_conn.specs.Inside.{held_in, IsTableOf}
use Rattle.table_model.specs.Operations.{shelf_at}
use Rattle.table_model.specs.Fitting.{AllAmong}
use Rattle.table_model.specs.Soundness.{kept_numbers}
use Rattle.server_conn.proofs.Seeing.{some-at}
use Rattle.server_conn.proofs.Replying.{may-query, query-on, are-doomed}
use Rattle.server_conn.proofs.querying.doomed.Goals as goal

pub query_in-requires-clause-txn : goal.query_in-requires-clause-txn
query_in-requires-clause-txn c = c.requires.txn

pub query_in-requires-clause-rules : goal.query_in-requires-clause-rules
query_in-requires-clause-rules c = c.requires.rules

pub query_in-requires-clause-checked : goal.query_in-requires-clause-checked
query_in-requires-clause-checked c = c.requires.checked

pub table-requires : goal.table-requires
table-requires c = c.requires.txn

pub unwrap-requires : goal.unwrap-requires
unwrap-requires c = c.table.ensures.there.1 (may-query c.args.txn.now c.args.asked.now c.requires.txn c.requires.rules c.requires.checked).there

pub rows-requires-clause-bounds : goal.rows-requires-clause-bounds
rows-requires-clause-bounds c = (query-on c.args.txn.now c.args.asked.now c.unwrap.result.now c.in_ok-query.query c.requires.txn c.requires.rules c.requires.checked (some-at c.table.result (λ (found : Bor Table). IsTableOf (held_in c.args.txn.now) c.args.asked.now.table.0 found.now) c.unwrap.result c.unwrap.ensures c.table.ensures.value) c.in_ok-query.ensures).bounds

pub rows-requires-clause-order : goal.rows-requires-clause-order
rows-requires-clause-order c = (query-on c.args.txn.now c.args.asked.now c.unwrap.result.now c.in_ok-query.query c.requires.txn c.requires.rules c.requires.checked (some-at c.table.result (λ (found : Bor Table). IsTableOf (held_in c.args.txn.now) c.args.asked.now.table.0 found.now) c.unwrap.result c.unwrap.ensures c.table.ensures.value) c.in_ok-query.ensures).order

pub returns-clause-rows : goal.returns-clause-rows
returns-clause-rows c =
    let on = query-on c.args.txn.now c.args.asked.now c.unwrap.result.now c.in_ok-query.query c.requires.txn c.requires.rules c.requires.checked (some-at c.table.result (λ (found : Bor Table). IsTableOf (held_in c.args.txn.now) c.args.asked.now.table.0 found.now) c.unwrap.result c.unwrap.ensures c.table.ensures.value) c.in_ok-query.ensures in
    (are-doomed c.args.txn.now c.args.asked.now c.unwrap.result.now.shelf c.in_ok-query.query c.in_ok-numbers.numbers on c.requires.rules c.requires.deletes c.in_ok-numbers.ensures).rows

pub returns-clause-rise : goal.returns-clause-rise
returns-clause-rise c =
    let on = query-on c.args.txn.now c.args.asked.now c.unwrap.result.now c.in_ok-query.query c.requires.txn c.requires.rules c.requires.checked (some-at c.table.result (λ (found : Bor Table). IsTableOf (held_in c.args.txn.now) c.args.asked.now.table.0 found.now) c.unwrap.result c.unwrap.ensures c.table.ensures.value) c.in_ok-query.ensures in
    (are-doomed c.args.txn.now c.args.asked.now c.unwrap.result.now.shelf c.in_ok-query.query c.in_ok-numbers.numbers on c.requires.rules c.requires.deletes c.in_ok-numbers.ensures).rise

pub returns-clause-live : goal.returns-clause-live
returns-clause-live c =
    let of = (some-at c.table.result (λ (found : Bor Table). IsTableOf (held_in c.args.txn.now) c.args.asked.now.table.0 found.now) c.unwrap.result c.unwrap.ensures c.table.ensures.value) in
    let on = query-on c.args.txn.now c.args.asked.now c.unwrap.result.now c.in_ok-query.query c.requires.txn c.requires.rules c.requires.checked (some-at c.table.result (λ (found : Bor Table). IsTableOf (held_in c.args.txn.now) c.args.asked.now.table.0 found.now) c.unwrap.result c.unwrap.ensures c.table.ensures.value) c.in_ok-query.ensures in
    subst (λ (s : Shelf Body). AllAmong (kept_numbers s.kept) c.in_ok-numbers.numbers) of.shelf_is (are-doomed c.args.txn.now c.args.asked.now c.unwrap.result.now.shelf c.in_ok-query.query c.in_ok-numbers.numbers on c.requires.rules c.requires.deletes c.in_ok-numbers.ensures).live
