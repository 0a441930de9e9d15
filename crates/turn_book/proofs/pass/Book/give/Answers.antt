use Rattle.std.proofs.Common.{◌∙◌, ap}
use Rattle.turn_book.proofs.Calls.{added}
use Rattle.turn_book.proofs.pass.Book.give.Goals as goal

pub returns-clause-added : goal.returns-clause-added
returns-clause-added g c = λ x is. ap (λ m. m.0.mine) c.give.ensures.idle ∙ added g.T.History.number _ _ _ _ x c.requires.history is c.give.ensures.mine
