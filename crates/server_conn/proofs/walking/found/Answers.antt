-- The walk stands at an item, whose rank is kept.
use Rattle.std.proofs.Common.{◌∙◌}
use Rattle.path_code.specs.Ways.{way}
use Rattle.server_conn.specs.Inside.{shelves_in}
use Rattle.server_conn.proofs.Going.{found-held, item-place}
use Rattle.server_conn.proofs.walking.found.Goals as goal

pub rank-rank-requires : goal.rank-rank-requires
rank-rank-requires c = (way c.args.walk.path, c.requires.open.goes.stands)

pub keep-requires-clause-table : goal.keep-requires-clause-table
keep-requires-clause-table c = c.requires.open.goes.table_there

pub keep-requires-clause-column : goal.keep-requires-clause-column
keep-requires-clause-column c = c.requires.open.goes.column_there

pub keep-requires-clause-place : goal.keep-requires-clause-place
keep-requires-clause-place c = item-place (shelves_in c.args.txn.now) c.args.walk c.rank-rank.result c.requires.open.goes.shares (c.rank-rank.ensures (way c.args.walk.path) c.requires.open.goes.stands)

pub keep-requires-clause-room : goal.keep-requires-clause-room
keep-requires-clause-room c = c.requires.open.room

pub returns-clause-step : goal.returns-clause-step
returns-clause-step c = c.keep.ensures.step ∙ found-held c.args.txn.now c.args.walk c.rank-rank.result c.requires.open.goes (c.rank-rank.ensures (way c.args.walk.path) c.requires.open.goes.stands)
