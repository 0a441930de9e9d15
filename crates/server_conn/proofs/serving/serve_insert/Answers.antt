use Rattle.std.proofs.Common.{◌≡◌, refl, sym}
use Rattle.std.proofs.lemmas.Result.{IfOk-weaker}
use Rattle.walk_proto.specs.declared.messages.Request.TheVariants as request
use Rattle.server_conn.specs.declared.came.Came.{Came}
use Rattle.server_conn.specs.Connections.{holds}
use Rattle.server_conn.specs.Inside.{held_in, step_by}
use Rattle.server_conn.specs.Serving.{effect, table_in, inserted, serve}
use Rattle.server_conn.proofs.Effects.{refused-step, effect-step}
use Rattle.server_conn.proofs.serving.serve_insert.Goals as goal

pub returns-in-Some-clause-step : goal.returns-in-Some-clause-step
unfolding table_in
returns-in-Some-clause-step c = refused-step (request.Insert c.args.table c.args.bodies.now) (held_in c.args.txn.now) c.in-Some.code c.args.table.0 c.refused.result c.refused.ensures refl c.in-Some.ensures

pub insert-requires-clause-checked : goal.insert-requires-clause-checked
insert-requires-clause-checked c = sym c.in-None.ensures

pub returns-in-None-clause-step : goal.returns-in-None-clause-step
unfolding effect
returns-in-None-clause-step c =
    IfOk-weaker c.insert.result (λ (came : Came). step_by came (held_in c.insert.new.txn) ≡ inserted c.args.table c.args.bodies.now (held_in c.args.txn.now))
    (λ (came : Came). step_by came (held_in c.insert.new.txn) ≡ serve (request.Insert c.args.table c.args.bodies.now) (holds (held_in c.args.txn.now)))
    (λ came is. effect-step (request.Insert c.args.table c.args.bodies.now) (held_in c.args.txn.now) (step_by came (held_in c.insert.new.txn)) c.in-None.ensures is) c.insert.ensures.step
