use Rattle.std.proofs.Common.{◌≡◌}
use Rattle.plain_db.specs.TakingBack.{all_undone}
use Rattle.plain_db.proofs.TryLemmas.{IsTrying}
use Rattle.plain_db.proofs.trying.try_acts.Given as goal

-- the statements from here on, after the work so far, are the whole trial, and what takes them back leads to the start
abbrev pub invariant-acts : goal.invariant-acts
invariant-acts l = IsTrying l.fn.db l.acts l.i l.db l.tried × (all_undone l.undos.items l.db ≡ l.fn.db)
