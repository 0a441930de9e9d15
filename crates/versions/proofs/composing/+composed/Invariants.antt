use Rattle.std.proofs.Common.{length}
use Rattle.versions.proofs.composing.+composed.Given as goal

-- proposed from what the function passes where it calls itself
abbrev pub decreases-composed : goal.decreases-composed
decreases-composed l = length l.changes.now
