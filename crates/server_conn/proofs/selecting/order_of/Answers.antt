-- Each number of an order by itself.
use Rattle.server_conn.proofs.Coding.{order-none, order-up, order-down}
use Rattle.server_conn.proofs.selecting.order_of.Goals as goal

pub returns-then-order-eq0 : goal.returns-then-order-eq0
returns-then-order-eq0 c = order-none c.args.order c.args.column c.if-order-eq0.true

pub returns-then-order-eq1 : goal.returns-then-order-eq1
returns-then-order-eq1 c = order-up c.args.order c.args.column c.if-order-eq1.true

pub returns : goal.returns
returns c = order-down c.args.order c.args.column c.if-order-eq0.false c.if-order-eq1.false
