use Rattle.std.proofs.Common.{◌≡◌, refl}
use Rattle.walk_proto.specs.declared.messages.Request.TheVariants as request
use Rattle.server_conn.specs.Inside.{held_in}
use Rattle.server_conn.specs.Serving.{effect, table_in}
use Rattle.server_conn.proofs.Effects.{refused-step, effect-step, refused-ready}
use Rattle.server_conn.proofs.serving.serve_end.Goals as goal

pub returns-in-Some-clause-ready : goal.returns-in-Some-clause-ready
returns-in-Some-clause-ready c = refused-ready c.args.txn.now c.in-Some.code 0 c.refused.result c.refused.ensures

pub returns-in-Some-clause-step : goal.returns-in-Some-clause-step
unfolding table_in
returns-in-Some-clause-step c = refused-step (request.End c.args.commit) (held_in c.args.txn.now) c.in-Some.code 0 c.refused.result c.refused.ensures refl c.in-Some.ensures

pub returns-in-None-clause-step : goal.returns-in-None-clause-step
unfolding effect
returns-in-None-clause-step c = effect-step (request.End c.args.commit) (held_in c.args.txn.now) _ c.in-None.ensures c.end.ensures.step
