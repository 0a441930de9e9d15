use Rattle.server_conn.proofs.Going.{kept-held, kept-txn}
use Rattle.server_conn.proofs.walking.keep.Goals as goal

pub returns-clause-step : goal.returns-clause-step
returns-clause-step c = kept-held c.args.txn.now c.push_reserved.new.self c.args.table c.args.column c.args.place c.push_reserved.ensures.items

pub returns-clause-txn : goal.returns-clause-txn
returns-clause-txn c = kept-txn c.args.txn.now c.push_reserved.new.self _ c.requires.txn (record { table_there = c.requires.table; column_there = c.requires.column; is_place = c.requires.place }) c.push_reserved.ensures.items
