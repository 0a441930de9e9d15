use Rattle.std.proofs.Common.{length}
use Rattle.ope_tree.proofs.building.+balance.Given as goal

-- proposed from what the function passes where it calls itself
abbrev pub decreases-balance : goal.decreases-balance
decreases-balance l = length l.entries.now
