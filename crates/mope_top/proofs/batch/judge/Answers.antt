use Rattle.command_words.proofs.OrderLemmas.{words-same}
use Rattle.command_words.specs.Grammar.{texts}
use Rattle.command_words.specs.Orders.{AreWords}
use Rattle.command_words.specs.declared.order.Order.TheVariants.{Replay}
use Rattle.mope_top.proofs.batch.judge.Goals as goal

pub returns-in-Ok-Some-clause-shown : goal.returns-in-Ok-Some-clause-shown
returns-in-Ok-Some-clause-shown g c = λ r right.
    let ordered : AreWords (texts c.args.words.now) c.in-Ok-Some.order = rw c.in-Ok-Some.field-0-is at c.in-Ok-Some.ensures in
    c.obey.ensures.shown r (words-same (texts c.args.words.now) c.in-Ok-Some.order (Replay r) ordered right)
