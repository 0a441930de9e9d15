use Rattle.std.proofs.Common.{◌≡◌, refl}
use Rattle.std.proofs.lemmas.Result.{IfOk-weaker}
use Rattle.walk_proto.specs.declared.messages.Request.TheVariants as request
use Rattle.server_conn.specs.declared.came.Came.{Came}
use Rattle.server_conn.specs.Connections.{holds}
use Rattle.server_conn.specs.Inside.{held_in, step_by}
use Rattle.server_conn.specs.Serving.{effect, table_in, walk_started, serve}
use Rattle.server_conn.proofs.Effects.{refused-step, effect-step, may-start}
use Rattle.server_conn.proofs.serving.serve_walk_start.Goals as goal

pub returns-in-Some-clause-step : goal.returns-in-Some-clause-step
unfolding table_in
returns-in-Some-clause-step c = refused-step (request.WalkStart c.args.table c.args.column) (held_in c.args.txn.now) c.in-Some.code 0 c.refused.result c.refused.ensures refl c.in-Some.ensures

pub start-requires-clause-table : goal.start-requires-clause-table
start-requires-clause-table c = (may-start c.args.txn.now c.args.table c.args.column c.in-None.ensures).table_there

pub start-requires-clause-column : goal.start-requires-clause-column
start-requires-clause-column c = (may-start c.args.txn.now c.args.table c.args.column c.in-None.ensures).column_there

pub start-requires-clause-closed : goal.start-requires-clause-closed
start-requires-clause-closed c = (may-start c.args.txn.now c.args.table c.args.column c.in-None.ensures).closed

pub returns-in-None-clause-step : goal.returns-in-None-clause-step
unfolding effect
returns-in-None-clause-step c =
    IfOk-weaker c.start.result (λ (came : Came). step_by came (held_in c.start.new.txn) ≡ walk_started c.args.table c.args.column (held_in c.args.txn.now))
    (λ (came : Came). step_by came (held_in c.start.new.txn) ≡ serve (request.WalkStart c.args.table c.args.column) (holds (held_in c.args.txn.now)))
    (λ came is. effect-step (request.WalkStart c.args.table c.args.column) (held_in c.args.txn.now) (step_by came (held_in c.start.new.txn)) c.in-None.ensures is) c.start.ensures.step
