-- What came of the request settles where the connection stands.
use Rattle.std.proofs.Common.{Result, IsOk, subst}
use Rattle.server_conn.specs.Inside.{conn_in}
use Rattle.server_conn.proofs.Staged.{step-served, step-conn}
use Rattle.server_conn.proofs.stage.serve_held.Goals as goal

pub serve_txn-requires-clause-txn : goal.serve_txn-requires-clause-txn
serve_txn-requires-clause-txn c = c.requires.txn

pub serve_txn-requires-clause-rules : goal.serve_txn-requires-clause-rules
serve_txn-requires-clause-rules c = c.requires.rules

pub settle-requires-clause-txn : goal.settle-requires-clause-txn
settle-requires-clause-txn c = c.in-Ok.ensures.txn

pub settle-requires-clause-ready : goal.settle-requires-clause-ready
settle-requires-clause-ready c = c.in-Ok.ensures.ready

pub returns-in-Ok-clause-served : goal.returns-in-Ok-clause-served
returns-in-Ok-clause-served c = step-served c.args.request _ _ c.settle.result.1 c.settle.ensures.served c.in-Ok.ensures.step

pub returns-in-Ok-clause-conn : goal.returns-in-Ok-clause-conn
returns-in-Ok-clause-conn c = step-conn _ _ (conn_in c.settle.result.0) c.settle.ensures.conn c.in-Ok.ensures.step

pub returns-in-Ok-clause-stage : goal.returns-in-Ok-clause-stage
returns-in-Ok-clause-stage c = c.settle.ensures.stage

pub returns-in-Err-clause-walks : goal.returns-in-Err-clause-walks
returns-in-Err-clause-walks c = λ step. subst (λ (r : Result _ _). IsOk r) c.in-Err.is (c.serve_txn.ensures.walks step)
