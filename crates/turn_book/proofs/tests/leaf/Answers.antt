use Rattle.std.proofs.Common.{rules}
use Rattle.turn_book.specs.Passes.{known_by}
use Rattle.turn_book.proofs.Covering.{covers_at}
use Rattle.turn_book.proofs.tests.leaf.Goals as goal

pub returns-clause-covers : goal.returns-clause-covers
returns-clause-covers g c = covers_at (known_by c.add.new.pass) c.args.number (search rules)
