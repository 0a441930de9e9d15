-- The table is touched, and the places are used up.
use Rattle.server_conn.proofs.Written.{left-txn, left-held}
use Rattle.server_conn.proofs.querying.leave.Goals as goal

pub returns-clause-held : goal.returns-clause-held
returns-clause-held c = left-held c.args.table c.args.txn.now c.touch.new.txn c.requires.closed c.in_ok-touch.ensures

pub returns-clause-txn : goal.returns-clause-txn
returns-clause-txn c = left-txn c.args.table c.args.txn.now c.touch.new.txn c.requires.txn c.requires.closed c.in_ok-touch.ensures
