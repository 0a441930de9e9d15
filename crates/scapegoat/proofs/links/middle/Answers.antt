use Rattle.std.proofs.Common.{arith}
use Rattle.scapegoat.proofs.Ranks.{root-none, root-some}
use Rattle.scapegoat.proofs.links.middle.Goals as goal

pub returns-then-count-eq0 : goal.returns-then-count-eq0
returns-then-count-eq0 c = root-none c.args.first c.args.count (omega arith)

pub returns : goal.returns
returns c = root-some c.args.first c.args.count (omega arith)
