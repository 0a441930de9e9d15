-- One step further from an item, in the walk's share of the tree.
use Rattle.std.proofs.Common.{◌∙◌, List, sym, subst, arith}
use Rattle.path_code.specs.Ways.{way}
use Rattle.path_code.proofs.Spelling.{length-steps}
use Rattle.tree_model.specs.declared.Side.{Side}
use Rattle.ope_tree.specs.Cursors.{ArrivesAt}
use Rattle.server_conn.specs.Inside.{shelves_in}
use Rattle.server_conn.proofs.Going.{step-held, step-way, step-short}
use Rattle.server_conn.proofs.walking.step.Goals as goal

pub advance-arrival-requires : goal.advance-arrival-requires
advance-arrival-requires c = (way c.args.walk.path, c.requires.open.goes.stands)

pub child-path-requires : goal.child-path-requires
child-path-requires c =
    let short = step-short (shelves_in c.args.txn.now) c.args.walk c.requires.open.goes c.len-short.ensures.short in
    omega (arith, short, length-steps c.args.walk.path.len c.args.walk.path.bits)

pub come_to-requires-clause-table : goal.come_to-requires-clause-table
come_to-requires-clause-table c = c.requires.open.goes.table_there

pub come_to-requires-clause-column : goal.come_to-requires-clause-column
come_to-requires-clause-column c = c.requires.open.goes.column_there

pub come_to-requires-clause-shares : goal.come_to-requires-clause-shares
come_to-requires-clause-shares c = c.requires.open.goes.shares

pub come_to-requires-clause-is_way : goal.come_to-requires-clause-is_way
come_to-requires-clause-is_way c = step-way (shelves_in c.args.txn.now) c.args.walk (way c.child-path.result) c.args.side c.requires.open.goes c.child-path.ensures.way

pub come_to-requires-clause-arrives : goal.come_to-requires-clause-arrives
come_to-requires-clause-arrives c =
    subst (λ (steps : List Side). ArrivesAt c.args.walk.tree steps c.advance-arrival.result) (sym c.child-path.ensures.way) (c.advance-arrival.ensures (way c.args.walk.path) c.requires.open.goes.stands)

pub come_to-requires-clause-room : goal.come_to-requires-clause-room
come_to-requires-clause-room c = c.requires.open.room

pub returns-clause-step : goal.returns-clause-step
returns-clause-step c = c.come_to.ensures.step ∙ step-held c.args.txn.now c.args.walk (way c.child-path.result) c.args.side c.requires.open.goes c.child-path.ensures.way
