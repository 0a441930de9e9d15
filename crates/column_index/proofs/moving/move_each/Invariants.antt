use Rattle.column_index.specs.Fronts.{AreMoved}
use Rattle.column_index.proofs.moving.move_each.Given as goal

-- the entries up to the end of the last moved code have got their new codes
abbrev pub invariant-pairs : goal.invariant-pairs
invariant-pairs l = AreMoved l.moved l.pair-index l.earlier l.end l.entries
