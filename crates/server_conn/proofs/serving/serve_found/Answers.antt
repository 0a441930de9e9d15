-- Without an open walk there is nothing to keep, and else the walk ends where it stands.
use Rattle.std.proofs.Common.{sym}
use Rattle.server_conn.proofs.Effects.{found-none, found-some, left-txn, left-open}
use Rattle.server_conn.proofs.serving.serve_found.Goals as goal

pub returns-in-None-clause-step : goal.returns-in-None-clause-step
returns-in-None-clause-step c = found-none c.args.txn.now c.take_walk.new.self c.refused.result c.take_walk.ensures.left (sym c.in-None.ensures.taken) c.refused.ensures

pub returns-in-None-clause-txn : goal.returns-in-None-clause-txn
returns-in-None-clause-txn c = left-txn c.args.txn.now c.take_walk.new.self c.take_walk.ensures.left c.requires

pub found-requires-clause-txn : goal.found-requires-clause-txn
found-requires-clause-txn c = left-txn c.args.txn.now c.take_walk.new.self c.take_walk.ensures.left c.requires

pub found-requires-clause-open : goal.found-requires-clause-open
found-requires-clause-open c = left-open c.args.txn.now c.take_walk.new.self c.in-Some.walk c.take_walk.ensures.left c.requires (sym c.in-Some.ensures.taken)

pub returns-in-Some-clause-step : goal.returns-in-Some-clause-step
returns-in-Some-clause-step c = found-some c.args.txn.now c.take_walk.new.self c.in-Some.walk _ c.take_walk.ensures.left (sym c.in-Some.ensures.taken) c.found.ensures.step
