-- Each is smaller than the next.
use Rattle.std.proofs.Common.{arith}
use Rattle.enc_table.proofs.TableTests.{rising}
use Rattle.enc_table.proofs.tests.rise.Goals as goal

pub returns : goal.returns
returns c = λ _. rising c.args.rows.now (λ k h. c.rows.invariant k (omega (arith, h, c.rows-test.false)))
