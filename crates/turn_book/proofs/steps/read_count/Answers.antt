use Rattle.std.proofs.Common.{rules}
use Rattle.turn_book.proofs.Turning.{sees}
use Rattle.turn_book.proofs.steps.read_count.Goals as goal

pub load-requires : goal.load-requires
load-requires g c = (search rules, search rules, sees _ _ _ _ _ _ c.requires.turn.0 c.requires.turn.1 _ c.requires.turn.2)
