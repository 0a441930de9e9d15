use Rattle.std.proofs.Common.{◌≡◌, ◌*◌, arith}
use Rattle.workload.specs.History.{rank_of, rank_by, number_got}
use Rattle.plain_db.proofs.history.rank.Goals as goal

pub returns-in-Committed : goal.returns-in-Committed
unfolding rank_of rank_by number_got
returns-in-Committed c = rw c.in-Committed.is c.rank_of_number.ensures

pub returns-in-Installed : goal.returns-in-Installed
unfolding rank_of rank_by number_got
returns-in-Installed c = rw c.in-Installed.is c.rank_of_number-in-Installed.ensures

pub returns-in-Read : goal.returns-in-Read
unfolding rank_of rank_by number_got
returns-in-Read c = let e : c.args.t.now.base * 2 ≡ 2 * c.args.t.now.base = omega arith in rw c.in-Read.is e

pub returns-in-RolledBack : goal.returns-in-RolledBack
unfolding rank_of rank_by number_got
returns-in-RolledBack c = let e : c.args.t.now.base * 2 ≡ 2 * c.args.t.now.base = omega arith in rw c.in-RolledBack.is e

pub returns-in-Full : goal.returns-in-Full
unfolding rank_of rank_by number_got
returns-in-Full c = let e : c.args.t.now.base * 2 ≡ 2 * c.args.t.now.base = omega arith in rw c.in-Full.is e

pub returns-in-Conflict : goal.returns-in-Conflict
unfolding rank_of rank_by number_got
returns-in-Conflict c = let e : c.args.t.now.base * 2 ≡ 2 * c.args.t.now.base = omega arith in rw c.in-Conflict.is e

pub returns-in-Stale : goal.returns-in-Stale
unfolding rank_of rank_by number_got
returns-in-Stale c = let e : c.args.t.now.base * 2 ≡ 2 * c.args.t.now.base = omega arith in rw c.in-Stale.is e
