use Rattle.std.proofs.Common.{rules}
use Rattle.std.proofs.Common.{◌∙◌, ap, sym, length}
use Rattle.turn_book.proofs.Turning.{counts}
use Rattle.turn_book.proofs.steps.write_count.Goals as goal

pub store-requires : goal.store-requires
store-requires g c = (search rules, search rules, counts _ _ _ _ _ _ c.requires.turn.0 _ _ _ c.requires.turn.1 c.requires.next.0 (c.requires.picked ∙ c.requires.next.1) c.requires.next.2 (c.requires.count ∙ ap length (sym c.requires.picked)))
