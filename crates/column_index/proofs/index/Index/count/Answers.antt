use Rattle.std.proofs.Common.{arith}
use Rattle.column_index.proofs.Ranging.{count_of_range}
use Rattle.column_index.proofs.index.Index.count.Goals as goal

pub returns : goal.returns
returns c = omega (arith, count_of_range c.args.low c.args.high c.args.self.now.entries c.range-first.result.0 c.range-first.result.1 c.range-first.ensures.parts)
