use Rattle.std.proofs.Common.{rules}
use Rattle.std.proofs.Common.{◌∙◌, ap}
use Rattle.turn_book.proofs.Turning.{looks}
use Rattle.turn_book.proofs.steps.await_turn.Goals as goal

pub load-serving-requires : goal.load-serving-requires
load-serving-requires g c = (search rules, search rules, looks _ _ _ _ _ _ c.args.ticket _ (ap (λ m. m.0.stage) c.serving.invariant.2 ∙ c.requires.waits))

pub serving-preserved : goal.serving-preserved
serving-preserved g c = (
  search rules,
  search rules,
  (c.load-serving.ensures.2 c.args.ticket (ap (λ m. m.0.stage) c.serving.invariant.2 ∙ c.requires.waits)).1 (search rules) ∙ c.serving.invariant.2,
)
