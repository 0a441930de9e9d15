-- The walk stands at the root of its share of the tree.
use Rattle.std.proofs.Common.{◌∙◌, List, sym, subst}
use Rattle.path_code.specs.Ways.{way}
use Rattle.tree_model.specs.declared.Side.{Side}
use Rattle.ope_tree.specs.Cursors.{ArrivesAt}
use Rattle.server_conn.specs.Inside.{shelves_in}
use Rattle.server_conn.proofs.Going.{more-room, root-way, start-held}
use Rattle.server_conn.proofs.walking.start.Goals as goal

pub share-requires-clause-txn : goal.share-requires-clause-txn
share-requires-clause-txn c = more-room c.args.txn.now c.reserve.new.self c.requires.txn c.requires.closed c.reserve.ensures.items

pub share-requires-clause-table : goal.share-requires-clause-table
unfolding shelves_in
share-requires-clause-table c = c.requires.table

pub share-requires-clause-column : goal.share-requires-clause-column
unfolding shelves_in
share-requires-clause-column c = c.requires.column

pub come_to-requires-clause-txn : goal.come_to-requires-clause-txn
come_to-requires-clause-txn c = more-room c.args.txn.now c.reserve.new.self c.requires.txn c.requires.closed c.reserve.ensures.items

pub come_to-requires-clause-table : goal.come_to-requires-clause-table
unfolding shelves_in
come_to-requires-clause-table c = c.requires.table

pub come_to-requires-clause-column : goal.come_to-requires-clause-column
unfolding shelves_in
come_to-requires-clause-column c = c.requires.column

pub come_to-requires-clause-shares : goal.come_to-requires-clause-shares
come_to-requires-clause-shares c = c.in_ok-tree.ensures

pub come_to-requires-clause-is_way : goal.come_to-requires-clause-is_way
come_to-requires-clause-is_way c = root-way _ (way c.root.result) c.root.ensures.empty

pub come_to-requires-clause-arrives : goal.come_to-requires-clause-arrives
come_to-requires-clause-arrives c = subst (λ (steps : List Side). ArrivesAt c.in_ok-tree.tree steps c.begin-arrival.result) (sym c.root.ensures.empty) c.begin-arrival.ensures

pub returns-clause-step : goal.returns-clause-step
returns-clause-step c =
    c.come_to.ensures.step ∙ start-held c.args.txn.now c.reserve.new.self c.args.table c.args.column c.in_ok-tree.tree.column (way c.root.result) c.root.ensures.empty c.reserve.ensures.items c.in_ok-tree.ensures
