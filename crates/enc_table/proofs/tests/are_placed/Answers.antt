-- Each place is its column's.
use Rattle.std.proofs.Common.{arith}
use Rattle.enc_table.proofs.TableTests.{placed-each}
use Rattle.enc_table.proofs.tests.are_placed.Goals as goal

pub returns : goal.returns
returns c = λ _.
    placed-each c.args.table.now.shelf.columns c.args.places.now (omega (arith, c.if-places-width.false, c.columns-width.ensures.value))
    (λ i h. c.columns.invariant i (omega (arith, h, c.columns-test.false, c.columns-width.ensures.value)))
