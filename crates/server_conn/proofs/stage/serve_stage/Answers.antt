-- Each place where a connection stands by itself.
use Rattle.server_conn.specs.Inside.{IsStage}
use Rattle.server_conn.proofs.Staged.{idle-served, idle-conn, begins-served, begins-conn, awaits-served, awaits-conn, same-stage, holds-txn, holds-conn, served-at, conn-at}
use Rattle.server_conn.proofs.stage.serve_stage.Goals as goal

pub serve_held-requires-clause-txn : goal.serve_held-requires-clause-txn
serve_held-requires-clause-txn c = holds-txn c.args.stage c.in-Holds.txn c.in-Holds.is c.requires.stage

pub serve_held-requires-clause-rules : goal.serve_held-requires-clause-rules
serve_held-requires-clause-rules c = c.requires.rules

pub returns-in-Idle-clause-served : goal.returns-in-Idle-clause-served
returns-in-Idle-clause-served c = idle-served c.args.stage c.args.request c.serve_idle.result.1 c.in-Idle.is c.serve_idle.ensures.served

pub returns-in-Idle-clause-conn : goal.returns-in-Idle-clause-conn
returns-in-Idle-clause-conn c = idle-conn c.args.stage c.args.request _ c.in-Idle.is c.serve_idle.ensures.conn

pub returns-in-Idle-clause-stage : goal.returns-in-Idle-clause-stage
returns-in-Idle-clause-stage c = c.serve_idle.ensures.stage

pub returns-in-Begins-clause-served : goal.returns-in-Begins-clause-served
returns-in-Begins-clause-served c = begins-served c.args.stage c.args.request c.refused.result c.in-Begins.is c.refused.ensures

pub returns-in-Begins-clause-conn : goal.returns-in-Begins-clause-conn
returns-in-Begins-clause-conn c = begins-conn c.args.stage c.args.request c.in-Begins.is

pub returns-in-Begins-clause-stage : goal.returns-in-Begins-clause-stage
unfolding IsStage
returns-in-Begins-clause-stage c = tt

pub returns-in-Awaits-clause-served : goal.returns-in-Awaits-clause-served
returns-in-Awaits-clause-served c = awaits-served c.args.stage c.in-Awaits.txn c.in-Awaits.due c.args.request c.refused-in-Awaits.result c.in-Awaits.is c.refused-in-Awaits.ensures

pub returns-in-Awaits-clause-conn : goal.returns-in-Awaits-clause-conn
returns-in-Awaits-clause-conn c = awaits-conn c.args.stage c.in-Awaits.txn c.in-Awaits.due c.args.request c.in-Awaits.is

pub returns-in-Awaits-clause-stage : goal.returns-in-Awaits-clause-stage
returns-in-Awaits-clause-stage c = same-stage c.args.stage _ c.in-Awaits.is c.requires.stage

pub returns-in-Holds-clause-served : goal.returns-in-Holds-clause-served
returns-in-Holds-clause-served c = served-at c.args.request _ _ c.serve_held.result (holds-conn c.args.stage c.in-Holds.txn c.in-Holds.is) c.serve_held.ensures.served

pub returns-in-Holds-clause-conn : goal.returns-in-Holds-clause-conn
returns-in-Holds-clause-conn c = conn-at c.args.request _ _ c.serve_held.result (holds-conn c.args.stage c.in-Holds.txn c.in-Holds.is) c.serve_held.ensures.conn

pub returns-in-Holds-clause-stage : goal.returns-in-Holds-clause-stage
returns-in-Holds-clause-stage c = c.serve_held.ensures.stage

pub returns-in-Holds-clause-walks : goal.returns-in-Holds-clause-walks
returns-in-Holds-clause-walks c = c.serve_held.ensures.walks
