use Rattle.std.proofs.Common.{◌≡◌, take}
use Rattle.step_core.proofs.scripts.copy_acts.Given as goal

abbrev pub invariant-acts : goal.invariant-acts
invariant-acts l = l.copies.items ≡ take l.i l.acts
