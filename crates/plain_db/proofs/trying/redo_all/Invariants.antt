use Rattle.plain_db.proofs.TryLemmas.{IsUnderWay}
use Rattle.plain_db.proofs.trying.redo_all.Given as goal

-- the statements from here on, after those done again, are the whole trial
abbrev pub invariant-acts : goal.invariant-acts
invariant-acts l = IsUnderWay l.fn.db l.acts l.i l.db
