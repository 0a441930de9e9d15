use Rattle.std.proofs.Common.{rules}
use Rattle.std.proofs.Common.{◌∙◌, ◌∷◌, ap, sym, Some}
use Rattle.atomic_table.specs.Table.{rest}
use Rattle.turn_book.proofs.steps.take_out.Goals as goal

pub exchange-requires : goal.exchange-requires
exchange-requires g c = (search rules, (Some c.requires.held.0, c.requires.held.1 ∙ ap (λ l. (0, Some c.requires.held.0) ∷ rest l) (sym c.requires.held.1)))
