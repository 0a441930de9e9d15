-- There are as many places as columns, and as many bodies as places.
use Rattle.std.proofs.Common.{◌≡◌, rules, arith}
use Rattle.table_model.specs.Fitting.{AllPlaced}
use Rattle.enc_table.proofs.TableSeen.{length-placed}
use Rattle.enc_table.proofs.tests.insert.Goals as goal

pub insert_row-requires-clause-wide : goal.insert_row-requires-clause-wide
insert_row-requires-clause-wide c =
    let placed : AllPlaced c.args.table.now.shelf.columns c.args.places.now = search rules in
    omega (arith, c.if-bodies-places.false, length-placed c.args.table.now.shelf.columns c.args.places.now placed)
