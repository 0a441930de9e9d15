use Rattle.enc_table.specs.Marking.{AreMarked}
use Rattle.enc_table.proofs.carrying.recode_one.Given as goal

-- the rows of the entries from the start to the place have the old code by the index and have got the new one
abbrev pub invariant-entries : goal.invariant-entries
invariant-entries l = AreMarked l.pair.old l.pair.new l.index.entries l.start l.place l.numbers l.initial.cells l.cells
