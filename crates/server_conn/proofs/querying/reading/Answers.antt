-- Each verb by its own plan.
use Rattle.std.proofs.Common.{◌∙◌, ◌≡◌, ◌<◌, ◌≤◌, ℕ, List, length, flat_map, [], ◌∷◌, ◌==◌, ap, sym, subst, refl, IfOk, Bor}
use Rattle.walk_proto.specs.declared.messages.Reply.{Reply}
use Rattle.walk_proto.specs.declared.messages.Reply.TheVariants as reply
use Rattle.sql_plan.specs.Plans.{rows_found}
use Rattle.server_conn.specs.Asking.{bodies_by, extreme_numbers}
use Rattle.std.specs.List.{All}
use Rattle.std.proofs.lemmas.Result.{IfOk-weaker}
use Rattle.mope_base.specs.declared.body.Body.{Body}
use Rattle.table_model.specs.Stores.{Shelf}
use Rattle.enc_table.specs.Seen.{Seen as Table}
use Rattle.server_conn.specs.Inside.{held_in, IsTableOf}
use Rattle.server_conn.specs.Serving.{rows_asked, verb_by, reply_about}
use Rattle.server_conn.proofs.Seeing.{some-at}
use Rattle.server_conn.proofs.Replying.{may-query, is-sound, query-on, low-verb, two-or-three, reply-rows, reply-count, reply-extreme}
use Rattle.server_conn.proofs.querying.reading.Goals as goal

pub query_in-requires-clause-txn : goal.query_in-requires-clause-txn
query_in-requires-clause-txn c = c.requires.txn

pub query_in-requires-clause-rules : goal.query_in-requires-clause-rules
query_in-requires-clause-rules c = c.requires.rules

pub query_in-requires-clause-checked : goal.query_in-requires-clause-checked
query_in-requires-clause-checked c = c.requires.checked

pub table-requires : goal.table-requires
table-requires c = c.requires.txn

pub unwrap-table-requires : goal.unwrap-table-requires
unwrap-table-requires c = c.table.ensures.there.1 (may-query c.args.txn.now c.args.asked.now c.requires.txn c.requires.rules c.requires.checked).there

pub rows_reply-requires-clause-bounds : goal.rows_reply-requires-clause-bounds
rows_reply-requires-clause-bounds c = (query-on c.args.txn.now c.args.asked.now c.unwrap-table.result.now c.in_ok-query.query c.requires.txn c.requires.rules c.requires.checked (some-at c.table.result (λ (found : Bor Table). IsTableOf (held_in c.args.txn.now) c.args.asked.now.table.0 found.now) c.unwrap-table.result c.unwrap-table.ensures c.table.ensures.value) c.in_ok-query.ensures).bounds

pub rows_reply-requires-clause-order : goal.rows_reply-requires-clause-order
rows_reply-requires-clause-order c = (query-on c.args.txn.now c.args.asked.now c.unwrap-table.result.now c.in_ok-query.query c.requires.txn c.requires.rules c.requires.checked (some-at c.table.result (λ (found : Bor Table). IsTableOf (held_in c.args.txn.now) c.args.asked.now.table.0 found.now) c.unwrap-table.result c.unwrap-table.ensures c.table.ensures.value) c.in_ok-query.ensures).order

pub rows_reply-requires-clause-columns : goal.rows_reply-requires-clause-columns
rows_reply-requires-clause-columns c =
    subst (λ (columns : List ℕ). All (λ (column : ℕ). column < length c.unwrap-table.result.now.shelf.columns) columns) (sym c.as_slice.ensures) (query-on c.args.txn.now c.args.asked.now c.unwrap-table.result.now c.in_ok-query.query c.requires.txn c.requires.rules c.requires.checked (some-at c.table.result (λ (found : Bor Table). IsTableOf (held_in c.args.txn.now) c.args.asked.now.table.0 found.now) c.unwrap-table.result c.unwrap-table.ensures c.table.ensures.value) c.in_ok-query.ensures).columns

pub rows_reply-requires-clause-narrow : goal.rows_reply-requires-clause-narrow
rows_reply-requires-clause-narrow c = subst (λ (columns : List ℕ). length columns ≤ 8) (sym c.as_slice.ensures) (is-sound c.args.asked.now c.requires.rules).narrow

pub returns-then-asked-eq0 : goal.returns-then-asked-eq0
returns-then-asked-eq0 c =
    let s = c.unwrap-table.result.now.shelf in
    let on = query-on c.args.txn.now c.args.asked.now c.unwrap-table.result.now c.in_ok-query.query c.requires.txn c.requires.rules c.requires.checked (some-at c.table.result (λ (found : Bor Table). IsTableOf (held_in c.args.txn.now) c.args.asked.now.table.0 found.now) c.unwrap-table.result c.unwrap-table.ensures c.table.ensures.value) c.in_ok-query.ensures in
    IfOk-weaker c.rows_reply.result (λ (answer : Reply). answer ≡ reply.Rows (length c.as_slice.result.now) (flat_map (bodies_by s c.as_slice.result.now) (rows_found s c.in_ok-query.query)))
    (λ (answer : Reply). answer ≡ reply_about (verb_by c.args.asked.now.verb c.args.asked.now) (rows_asked c.args.asked.now (held_in c.args.txn.now)))
    (λ answer is. is ∙ ap (λ (columns : List ℕ). reply.Rows (length columns) (flat_map (bodies_by s columns) (rows_found s c.in_ok-query.query))) c.as_slice.ensures ∙ reply-rows c.args.txn.now c.args.asked.now s c.in_ok-query.query on c.if-asked-eq0.true) c.rows_reply.ensures

pub count-requires : goal.count-requires
count-requires c = (query-on c.args.txn.now c.args.asked.now c.unwrap-table.result.now c.in_ok-query.query c.requires.txn c.requires.rules c.requires.checked (some-at c.table.result (λ (found : Bor Table). IsTableOf (held_in c.args.txn.now) c.args.asked.now.table.0 found.now) c.unwrap-table.result c.unwrap-table.ensures c.table.ensures.value) c.in_ok-query.ensures).bounds

pub returns-then-asked-eq1 : goal.returns-then-asked-eq1
returns-then-asked-eq1 c =
    let s = c.unwrap-table.result.now.shelf in
    let on = query-on c.args.txn.now c.args.asked.now c.unwrap-table.result.now c.in_ok-query.query c.requires.txn c.requires.rules c.requires.checked (some-at c.table.result (λ (found : Bor Table). IsTableOf (held_in c.args.txn.now) c.args.asked.now.table.0 found.now) c.unwrap-table.result c.unwrap-table.ensures c.table.ensures.value) c.in_ok-query.ensures in
    ap reply.Count c.count.ensures ∙ reply-count c.args.txn.now c.args.asked.now s c.in_ok-query.query on c.if-asked-eq1.true

pub extreme_reply-requires-clause-bounds : goal.extreme_reply-requires-clause-bounds
extreme_reply-requires-clause-bounds c = (query-on c.args.txn.now c.args.asked.now c.unwrap-table.result.now c.in_ok-query.query c.requires.txn c.requires.rules c.requires.checked (some-at c.table.result (λ (found : Bor Table). IsTableOf (held_in c.args.txn.now) c.args.asked.now.table.0 found.now) c.unwrap-table.result c.unwrap-table.ensures c.table.ensures.value) c.in_ok-query.ensures).bounds

pub extreme_reply-requires-clause-column : goal.extreme_reply-requires-clause-column
extreme_reply-requires-clause-column c =
    (query-on c.args.txn.now c.args.asked.now c.unwrap-table.result.now c.in_ok-query.query c.requires.txn c.requires.rules c.requires.checked (some-at c.table.result (λ (found : Bor Table). IsTableOf (held_in c.args.txn.now) c.args.asked.now.table.0 found.now) c.unwrap-table.result c.unwrap-table.ensures c.table.ensures.value) c.in_ok-query.ensures).target
    (two-or-three c.args.asked.now.verb c.if-asked-eq0.false c.if-asked-eq1.false (low-verb c.args.asked.now c.requires.rules c.requires.reads))

pub returns : goal.returns
returns c =
    let s = c.unwrap-table.result.now.shelf in
    let on = query-on c.args.txn.now c.args.asked.now c.unwrap-table.result.now c.in_ok-query.query c.requires.txn c.requires.rules c.requires.checked (some-at c.table.result (λ (found : Bor Table). IsTableOf (held_in c.args.txn.now) c.args.asked.now.table.0 found.now) c.unwrap-table.result c.unwrap-table.ensures c.table.ensures.value) c.in_ok-query.ensures in
    let low = low-verb c.args.asked.now c.requires.rules c.requires.reads in
    IfOk-weaker c.extreme_reply.result (λ (answer : Reply). answer ≡ reply.Rows 1 (flat_map (bodies_by s (c.args.asked.now.target ∷ [])) (extreme_numbers s c.in_ok-query.query.bounds c.args.asked.now.target (c.args.asked.now.verb == 3))))
    (λ (answer : Reply). answer ≡ reply_about (verb_by c.args.asked.now.verb c.args.asked.now) (rows_asked c.args.asked.now (held_in c.args.txn.now)))
    (λ answer is. is ∙ reply-extreme c.args.txn.now c.args.asked.now s c.in_ok-query.query (c.args.asked.now.verb == 3) on c.if-asked-eq0.false c.if-asked-eq1.false low refl) c.extreme_reply.ensures
