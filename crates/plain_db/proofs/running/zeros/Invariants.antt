use Rattle.std.proofs.Common.{◌≡◌, replicate}
use Rattle.plain_db.proofs.running.zeros.Given as goal

abbrev pub invariant-numbers : goal.invariant-numbers
invariant-numbers l = l.numbers.items ≡ replicate l._i 0
