-- The rows that are found, and then they are taken out.
use Rattle.std.proofs.Common.{◌<◌, ◌∙◌, List, ℕ, length, ap}
use Rattle.server_conn.specs.Inside.{held_in}
use Rattle.server_conn.proofs.Taking.{deletion-is}
use Rattle.server_conn.proofs.Replying.{may-query}
use Rattle.server_conn.proofs.querying.deletion.Goals as goal

pub doomed-requires-clause-txn : goal.doomed-requires-clause-txn
doomed-requires-clause-txn c = c.requires.txn

pub doomed-requires-clause-rules : goal.doomed-requires-clause-rules
doomed-requires-clause-rules c = c.requires.rules

pub doomed-requires-clause-checked : goal.doomed-requires-clause-checked
doomed-requires-clause-checked c = c.requires.checked

pub doomed-requires-clause-deletes : goal.doomed-requires-clause-deletes
doomed-requires-clause-deletes c = c.requires.deletes

pub delete_all-requires-clause-txn : goal.delete_all-requires-clause-txn
delete_all-requires-clause-txn c = c.requires.txn

pub delete_all-requires-clause-closed : goal.delete_all-requires-clause-closed
delete_all-requires-clause-closed c = (may-query c.args.txn.now c.args.asked.now c.requires.txn c.requires.rules c.requires.checked).closed

pub delete_all-requires-clause-there : goal.delete_all-requires-clause-there
unfolding held_in
delete_all-requires-clause-there c = (may-query c.args.txn.now c.args.asked.now c.requires.txn c.requires.rules c.requires.checked).there

pub delete_all-requires-clause-rise : goal.delete_all-requires-clause-rise
delete_all-requires-clause-rise c = c.in_ok-numbers.ensures.rise

pub delete_all-requires-clause-live : goal.delete_all-requires-clause-live
delete_all-requires-clause-live c = c.in_ok-numbers.ensures.live

pub returns-clause-step : goal.returns-clause-step
returns-clause-step c =
    deletion-is c.args.asked.now (held_in c.args.txn.now) (held_in c.delete_all.new.txn) c.in_ok-numbers.numbers (length c.as_slice.result.now) c.requires.deletes c.in_ok-numbers.ensures.rows (ap length c.as_slice.ensures) c.in_ok-delete_all.ensures.held

pub returns-clause-txn : goal.returns-clause-txn
returns-clause-txn c = c.in_ok-delete_all.ensures.txn
