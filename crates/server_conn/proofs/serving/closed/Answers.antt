use Rattle.std.proofs.Common.{◌∙◌, ap}
use Rattle.versions.specs.Databases.{Database}
use Rattle.server_conn.specs.Inside.{IsReadyFor}
use Rattle.server_conn.proofs.Effects.{closed-step}
use Rattle.server_conn.proofs.serving.closed.Goals as goal

pub returns-clause-step : goal.returns-clause-step
returns-clause-step c = closed-step c.args.txn.now c.number.result (c.number.ensures.value ∙ ap (λ (d : Database). d.number) c.version.ensures)

pub returns-clause-ready : goal.returns-clause-ready
unfolding IsReadyFor
returns-clause-ready c = tt
