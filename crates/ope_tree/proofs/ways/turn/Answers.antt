use Rattle.std.proofs.Common.{ap, sym, arith}
use Rattle.tree_model.specs.Places.{number}
use Rattle.tree_model.proofs.Ways.{turn_at-left, turn_at-here, turn_at-right}
use Rattle.ope_tree.proofs.ways.turn.Goals as goal

pub returns-then-rank-before : goal.returns-then-rank-before
unfolding number
returns-then-rank-before c = sym (turn_at-left c.args.before c.args.place (omega (arith, ap number c.in-Found.is)))

pub returns-then-before-rank : goal.returns-then-before-rank
unfolding number
returns-then-before-rank c = sym (turn_at-right c.args.before c.args.place (omega (arith, ap number c.in-Found.is)))

pub returns-else-before-rank : goal.returns-else-before-rank
unfolding number
returns-else-before-rank c = sym (turn_at-here c.args.before c.args.place (omega (arith, ap number c.in-Found.is)))

pub returns-then-rank-before-2 : goal.returns-then-rank-before-2
unfolding number
returns-then-rank-before-2 c = sym (turn_at-left c.args.before c.args.place (omega (arith, ap number c.in-Gap.is)))

pub returns-else-rank-before-2 : goal.returns-else-rank-before-2
unfolding number
returns-else-rank-before-2 c = sym (turn_at-right c.args.before c.args.place (omega (arith, ap number c.in-Gap.is)))
