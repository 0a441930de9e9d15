-- Each request by itself: only an END and a rebuild wait for a turn.
use Rattle.walk_proto.specs.declared.messages.Request.TheVariants as request
use Rattle.server_conn.specs.Inside.{held_in}
use Rattle.server_conn.proofs.Effects.{serve-as, begin-step, refused-ready, ready-started, ready-go, ready-found, ready-inserted, ready-queried, start-no-step, insert-no-step, query-no-step}
use Rattle.server_conn.proofs.serving.serve_txn.Goals as goal

pub returns-in-Begin-clause-step : goal.returns-in-Begin-clause-step
returns-in-Begin-clause-step c = serve-as c.args.request.now request.Begin (held_in c.args.txn.now) _ c.in-Begin.is (begin-step c.args.txn.now c.refused.result c.refused.ensures)

pub returns-in-Begin-clause-ready : goal.returns-in-Begin-clause-ready
returns-in-Begin-clause-ready c = refused-ready c.args.txn.now 2 0 c.refused.result c.refused.ensures

pub returns-in-WalkStart-clause-ready : goal.returns-in-WalkStart-clause-ready
returns-in-WalkStart-clause-ready c = ready-started c.serve_walk_start.new.txn (held_in c.args.txn.now) _ _ c.serve_walk_start.result c.serve_walk_start.ensures.step

pub returns-in-WalkStart-clause-walks : goal.returns-in-WalkStart-clause-walks
returns-in-WalkStart-clause-walks c = λ step. absurd (start-no-step c.args.request.now _ _ c.in-WalkStart.is step)

pub returns-in-Go-clause-ready : goal.returns-in-Go-clause-ready
returns-in-Go-clause-ready c = ready-go c.serve_go.new.txn (held_in c.args.txn.now) _ c.serve_go.result c.serve_go.ensures.step

pub returns-in-Found-clause-ready : goal.returns-in-Found-clause-ready
returns-in-Found-clause-ready c = ready-found c.serve_found.new.txn (held_in c.args.txn.now) c.serve_found.result c.serve_found.ensures.step

pub returns-in-Insert-clause-ready : goal.returns-in-Insert-clause-ready
returns-in-Insert-clause-ready c = ready-inserted c.serve_insert.new.txn (held_in c.args.txn.now) _ _ c.serve_insert.result c.serve_insert.ensures.step

pub returns-in-Insert-clause-walks : goal.returns-in-Insert-clause-walks
returns-in-Insert-clause-walks c = λ step. absurd (insert-no-step c.args.request.now _ _ c.in-Insert.is step)

pub returns-in-Query-clause-ready : goal.returns-in-Query-clause-ready
returns-in-Query-clause-ready c = ready-queried c.serve_query.new.txn (held_in c.args.txn.now) _ c.serve_query.result c.serve_query.ensures.step

pub returns-in-Query-clause-walks : goal.returns-in-Query-clause-walks
returns-in-Query-clause-walks c = λ step. absurd (query-no-step c.args.request.now _ c.in-Query.is step)
