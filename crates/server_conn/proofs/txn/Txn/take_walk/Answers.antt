-- The walk goes, and the rest stays.
use Rattle.std.proofs.Common.{Option, ap}
use Rattle.server_conn.specs.declared.txn.Txn.{Txn}
use Rattle.server_conn.specs.declared.txn.Walk.{Walk as Going}
use Rattle.server_conn.specs.Inside.{shut}
use Rattle.server_conn.proofs.txn.Txn.take_walk.Goals as goal

pub returns-clause-left : goal.returns-clause-left
unfolding shut
returns-clause-left c = ap (λ (w : Option Going). let t : Txn = record c.args.self.now { walk = w } in t) c.replace.ensures.after
