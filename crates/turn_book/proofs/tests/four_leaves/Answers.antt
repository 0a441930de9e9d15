use Rattle.std.proofs.Common.{◌+◌, refl, arith}
use Rattle.turn_book.specs.Passes.{known_by}
use Rattle.turn_book.proofs.Covering.{covers_both}
use Rattle.turn_book.proofs.tests.four_leaves.Goals as goal

pub returns-clause-covers : goal.returns-clause-covers
returns-clause-covers g c = let k = c.args.number in covers_both (known_by c.two_leaves-left.result) (known_by c.two_leaves-right.result) (known_by c.join.new.into) k (k + 2) (k + 2) (k + 4) ((k + 2) + 2) refl (omega arith)
    c.join.ensures.same.0 c.join.ensures.ended c.two_leaves-left.ensures.covers c.two_leaves-right.ensures.covers
