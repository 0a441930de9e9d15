use Rattle.std.proofs.Common.{length}
use Rattle.versions.proofs.composing.+composed_log.Given as goal

-- proposed from what the function passes where it calls itself
abbrev pub decreases-composed_log : goal.decreases-composed_log
decreases-composed_log l = length l.log.now
