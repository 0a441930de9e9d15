use Rattle.std.proofs.Common.{◌≡◌, refl}
use Rattle.walk_proto.specs.declared.messages.Request.TheVariants as request
use Rattle.server_conn.specs.Inside.{held_in}
use Rattle.server_conn.specs.Serving.{table_in}
use Rattle.server_conn.proofs.Effects.{refused-step, refused-ready, install-ready, install-step}
use Rattle.server_conn.proofs.serving.serve_rebuild.Goals as goal

pub returns-in-Some-clause-ready : goal.returns-in-Some-clause-ready
returns-in-Some-clause-ready c = refused-ready c.args.txn.now c.in-Some.code 0 c.refused.result c.refused.ensures

pub returns-in-Some-clause-step : goal.returns-in-Some-clause-step
unfolding table_in
returns-in-Some-clause-step c = refused-step (request.Rebuild c.args.table c.args.column) (held_in c.args.txn.now) c.in-Some.code 0 c.refused.result c.refused.ensures refl c.in-Some.ensures

pub returns-in-None-clause-ready : goal.returns-in-None-clause-ready
returns-in-None-clause-ready c = install-ready c.args.txn.now c.args.table c.args.column c.requires c.in-None.ensures

pub returns-in-None-clause-step : goal.returns-in-None-clause-step
returns-in-None-clause-step c = install-step c.args.txn.now c.args.table c.args.column c.in-None.ensures
