use Rattle.std.proofs.Common.{arith}
use Rattle.path_code.specs.declared.moves.Recode.{Recode}
use Rattle.enc_table.proofs.CodePlaces.{all_recoded, begins_ahead, many_recoded, none_recoded, recoding_on}
use Rattle.enc_table.proofs.RowCodes.{entries_indexed}
use Rattle.enc_table.proofs.carrying.recode.Goals as goal

pub pairs-init : goal.pairs-init
pairs-init c = none_recoded c.args.moved.now c.args.index.now.entries c.args.cells.now

pub start_of-start-requires : goal.start_of-start-requires
start_of-start-requires c =
    let nothing : Recode = record { old = 0; new = 0 } in
    begins_ahead c.args.moved.now c.pairs.pair-index nothing c.args.index.now.entries c.pairs.end c.args.cells.now c.pairs.cells c.pairs-test.true c.pairs.invariant

pub recode_one-requires-clause-many : goal.recode_one-requires-clause-many
recode_one-requires-clause-many c = many_recoded c.args.moved.now c.pairs.pair-index c.args.index.now.entries c.pairs.end c.args.numbers.now c.args.cells.now c.pairs.cells c.requires.many c.pairs.invariant

pub pairs-preserved : goal.pairs-preserved
pairs-preserved c =
    let nothing : Recode = record { old = 0; new = 0 } in
    recoding_on c.args.moved.now c.pairs.pair-index nothing c.args.index.now.entries c.pairs.end c.in_ok-end.end c.args.numbers.now c.args.cells.now c.pairs.cells c.recode_one.new.cells c.pairs-test.true c.requires.olds c.requires.many c.requires.rise (entries_indexed c.args.index.now c.args.cells.now c.args.numbers.now c.requires.indexed) c.pairs.invariant c.in_ok-end.ensures.end c.in_ok-end.ensures.cells

pub returns : goal.returns
returns c = all_recoded c.args.moved.now c.pairs.pair-index c.args.index.now.entries c.pairs.end c.args.cells.now c.pairs.cells (omega arith) c.pairs.invariant
