-- What the table's own call says.
use Rattle.server_conn.proofs.querying.without_rows.Goals as goal

pub delete_rows-requires-clause-rise : goal.delete_rows-requires-clause-rise
delete_rows-requires-clause-rise c = c.requires.rise

pub delete_rows-requires-clause-live : goal.delete_rows-requires-clause-live
delete_rows-requires-clause-live c = c.requires.live

pub returns-clause-table : goal.returns-clause-table
returns-clause-table c = c.in_ok-delete_rows.ensures.table

pub returns-clause-sound : goal.returns-clause-sound
returns-clause-sound c = c.columns-columns.ensures.table
