use Rattle.std.proofs.Common.{arith}
use Rattle.code_changes.specs.Changes.{new_code}
use Rattle.enc_table.specs.Stored.{codes_in}
use Rattle.enc_table.proofs.RowCodes.{order_indexed, index_carried}
use Rattle.enc_table.proofs.carrying.carry.Goals as goal

pub remap-requires-clause-in_order : goal.remap-requires-clause-in_order
remap-requires-clause-in_order c = order_indexed c.args.index.now (new_code c.args.moved.now) (codes_in c.args.cells.now) c.args.numbers.now c.requires.indexed c.requires.in_order

pub returns-clause-index : goal.returns-clause-index
returns-clause-index c = index_carried c.args.index.now c.remap.new.self (new_code c.args.moved.now) (codes_in c.args.cells.now) c.args.numbers.now c.requires.indexed c.requires.in_order c.in_ok-remap.ensures.ok
