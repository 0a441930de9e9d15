-- At an item the walk stays open, and a gap is kept.
use Rattle.std.proofs.Common.{◌∙◌}
use Rattle.path_code.specs.Ways.{way}
use Rattle.server_conn.specs.Inside.{shelves_in, held_in}
use Rattle.server_conn.proofs.Going.{arrives-item, arrives-gap, come-held, come-in, open-txn, gap-comes, gap-place}
use Rattle.server_conn.proofs.walking.come_to.Goals as goal

pub keep-requires-clause-place : goal.keep-requires-clause-place
keep-requires-clause-place c =
    let gap = arrives-gap c.args.tree (way c.args.path) c.args.arrival c.in-Gap.rank c.in-Gap.is c.requires.arrives in
    gap-place (shelves_in c.args.txn.now) c.args.table.0 c.args.column.0 c.args.tree.column (way c.args.path) c.in-Gap.rank c.requires.shares gap

pub returns-in-Node-clause-step : goal.returns-in-Node-clause-step
returns-in-Node-clause-step c =
    let comes = arrives-item c.args.tree (way c.args.path) c.args.arrival c.in-Node.cursor c.in-Node.body c.in-Node.is c.requires.arrives in
    come-held c.args.txn.now _ c.in-Node.body c.requires.shares comes

pub returns-in-Node-clause-txn : goal.returns-in-Node-clause-txn
returns-in-Node-clause-txn c =
    let comes = arrives-item c.args.tree (way c.args.path) c.args.arrival c.in-Node.cursor c.in-Node.body c.in-Node.is c.requires.arrives in
    open-txn c.args.txn.now _ c.requires.txn (come-in (shelves_in c.args.txn.now) _ c.in-Node.body c.requires.table c.requires.column c.requires.shares c.requires.is_way comes) c.requires.room

pub returns-in-Gap-clause-step : goal.returns-in-Gap-clause-step
returns-in-Gap-clause-step c =
    let gap = arrives-gap c.args.tree (way c.args.path) c.args.arrival c.in-Gap.rank c.in-Gap.is c.requires.arrives in
    c.keep.ensures.step ∙ gap-comes c.args.table.0 c.args.column.0 c.args.tree.column.tree (way c.args.path) c.in-Gap.rank (held_in c.args.txn.now) gap
