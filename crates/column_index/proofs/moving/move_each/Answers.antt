use Rattle.std.proofs.Common.{arith}
use Rattle.path_code.specs.declared.moves.Recode.{Recode}
use Rattle.column_index.proofs.Fronting.{none_moved, begins_ahead, moved_on, all_moved}
use Rattle.column_index.proofs.moving.move_each.Goals as goal

pub pairs-init : goal.pairs-init
pairs-init c = none_moved c.args.moved.now c.args.earlier.now c.args.entries.now c.requires.same

pub start_of-start-requires-clause-from : goal.start_of-start-requires-clause-from
start_of-start-requires-clause-from c =
    let nothing : Recode = record { old = 0; new = 0 } in
    begins_ahead c.args.moved.now c.pairs.pair-index nothing c.args.earlier.now c.pairs.entries c.pairs.end (omega arith) c.pairs.invariant

pub pairs-preserved : goal.pairs-preserved
pairs-preserved c =
    let nothing : Recode = record { old = 0; new = 0 } in
    moved_on c.args.moved.now c.pairs.pair-index nothing c.args.earlier.now c.pairs.entries c.move_code.new.entries c.pairs.end c.start_of-start.result c.in_ok-end.end c.requires.ordered c.requires.olds (omega arith) c.pairs.invariant c.start_of-start.ensures c.in_ok-end.ensures.end c.in_ok-end.ensures.many c.in_ok-end.ensures.moved

pub returns : goal.returns
returns c = all_moved c.args.moved.now c.pairs.pair-index c.args.earlier.now c.pairs.entries c.pairs.end (omega arith) c.pairs.invariant
