-- Without an open walk the step is refused, and else the walk takes it.
use Rattle.std.proofs.Common.{sym}
use Rattle.server_conn.proofs.Effects.{go-none, go-some, left-txn, left-open}
use Rattle.server_conn.proofs.serving.serve_go.Goals as goal

pub returns-in-None-clause-step : goal.returns-in-None-clause-step
returns-in-None-clause-step c = go-none c.args.txn.now c.take_walk.new.self c.args.side c.refused.result c.take_walk.ensures.left (sym c.in-None.ensures.taken) c.refused.ensures

pub returns-in-None-clause-txn : goal.returns-in-None-clause-txn
returns-in-None-clause-txn c = left-txn c.args.txn.now c.take_walk.new.self c.take_walk.ensures.left c.requires

pub step-requires-clause-txn : goal.step-requires-clause-txn
step-requires-clause-txn c = left-txn c.args.txn.now c.take_walk.new.self c.take_walk.ensures.left c.requires

pub step-requires-clause-open : goal.step-requires-clause-open
step-requires-clause-open c = left-open c.args.txn.now c.take_walk.new.self c.in-Some.walk c.take_walk.ensures.left c.requires (sym c.in-Some.ensures.taken)

pub returns-in-Some-clause-step : goal.returns-in-Some-clause-step
returns-in-Some-clause-step c = go-some c.args.txn.now c.take_walk.new.self c.args.side c.in-Some.walk _ c.take_walk.ensures.left (sym c.in-Some.ensures.taken) c.step.ensures.step
