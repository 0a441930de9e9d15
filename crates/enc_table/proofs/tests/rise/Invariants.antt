-- The numbers before the index rise.
use Rattle.std.proofs.Common.{◌<◌, ℕ, suc, get_or}
use Rattle.enc_table.proofs.tests.rise.Given as goal

abbrev pub invariant-rows : goal.invariant-rows
invariant-rows l = (k : ℕ) → suc k < l.at → get_or l.rows k 0 < get_or l.rows (suc k) 0
