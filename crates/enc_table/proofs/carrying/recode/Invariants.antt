use Rattle.enc_table.specs.Marking.{AreRecoded}
use Rattle.enc_table.proofs.carrying.recode.Given as goal

-- the rows of the pairs so far have got their new codes, and the entries of the others begin where those of the last one end or later
abbrev pub invariant-pairs : goal.invariant-pairs
invariant-pairs l = AreRecoded l.moved l.pair-index l.index.entries l.end l.initial.cells l.cells
