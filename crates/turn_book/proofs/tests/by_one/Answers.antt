use Rattle.std.proofs.Common.{rules}
use Rattle.turn_book.specs.Passes.{known_by, passes_in}
use Rattle.turn_book.proofs.Covering.{alone_has_all}
use Rattle.turn_book.proofs.tests.by_one.Goals as goal

pub close-requires-clause-all : goal.close-requires-clause-all
close-requires-clause-all g c = alone_has_all (passes_in c.in_ok-book.book) (known_by c.add_many-pass.result) (search rules) (search rules)
