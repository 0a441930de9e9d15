use Rattle.std.proofs.Common.{◌≡◌, take}
use Rattle.step_core.proofs.scripts.copy_script.Given as goal

abbrev pub invariant-pieces : goal.invariant-pieces
invariant-pieces l = l.copies.items ≡ take l.i l.script
