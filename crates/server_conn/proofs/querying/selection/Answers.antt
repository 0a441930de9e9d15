-- The reply, and then the table is touched.
use Rattle.server_conn.specs.Inside.{held_in}
use Rattle.server_conn.proofs.Taking.{selection-is}
use Rattle.server_conn.proofs.Replying.{may-query, low-verb}
use Rattle.server_conn.proofs.querying.selection.Goals as goal

pub reading-requires-clause-txn : goal.reading-requires-clause-txn
reading-requires-clause-txn c = c.requires.txn

pub reading-requires-clause-rules : goal.reading-requires-clause-rules
reading-requires-clause-rules c = c.requires.rules

pub reading-requires-clause-checked : goal.reading-requires-clause-checked
reading-requires-clause-checked c = c.requires.checked

pub reading-requires-clause-reads : goal.reading-requires-clause-reads
reading-requires-clause-reads c = c.requires.reads

pub leave-requires-clause-txn : goal.leave-requires-clause-txn
leave-requires-clause-txn c = c.requires.txn

pub leave-requires-clause-closed : goal.leave-requires-clause-closed
leave-requires-clause-closed c = (may-query c.args.txn.now c.args.asked.now c.requires.txn c.requires.rules c.requires.checked).closed

pub returns-clause-step : goal.returns-clause-step
returns-clause-step c =
    selection-is c.args.asked.now (held_in c.args.txn.now) (held_in c.leave.new.txn) c.in_ok-reply.reply (low-verb c.args.asked.now c.requires.rules c.requires.reads) c.in_ok-reply.ensures c.in_ok-leave.ensures.held

pub returns-clause-txn : goal.returns-clause-txn
returns-clause-txn c = c.in_ok-leave.ensures.txn
