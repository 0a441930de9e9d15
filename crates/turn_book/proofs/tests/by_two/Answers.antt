use Rattle.std.proofs.Common.{rules}
use Rattle.turn_book.specs.Passes.{known_by, passes_in}
use Rattle.turn_book.proofs.Covering.{two_have_all}
use Rattle.turn_book.proofs.tests.by_two.Goals as goal

pub close-requires-clause-all : goal.close-requires-clause-all
close-requires-clause-all g c = two_have_all (passes_in c.in_ok-book.book) (known_by c.join.new.into) _ _ _ _ (search rules) (search rules) (search rules) c.join.ensures.ended
