use Rattle.std.proofs.Common.{rules}
use Rattle.turn_book.proofs.Parting.{splits}
use Rattle.turn_book.proofs.pass.Book.split.Goals as goal

pub split_seat-requires : goal.split_seat-requires
split_seat-requires g c = (search rules, search rules, splits _ _ _ _ _ _ (search rules) c.requires.left)
