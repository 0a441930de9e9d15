use Rattle.column_index.specs.Fronts.{IsMoving}
use Rattle.column_index.proofs.moving.move_code.Given as goal

-- the entries from the start to the place have the old code and have got the new one
abbrev pub invariant-entries : goal.invariant-entries
invariant-entries l = IsMoving l.pair.old l.pair.new l.earlier l.initial.entries l.start l.place l.entries
