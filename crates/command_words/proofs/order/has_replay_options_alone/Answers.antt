use Rattle.std.proofs.Common.{◌∙◌, ◌||◌, codes, is_some, not}
use Rattle.command_words.specs.Grammar.{has, value_of}
use Rattle.command_words.proofs.OrderLemmas.{none_of_five, stands_as}
use Rattle.command_words.proofs.order.has_replay_options_alone.Goals as goal

pub returns : goal.returns
returns c = λ uses is.
    let turns = c.is_some.ensures ∙ stands_as c.args.given.now.turns _ is.turns in
    let number = c.is_some-2.ensures ∙ stands_as c.args.given.now.number _ is.number in
    let sessions = c.is_some-3.ensures ∙ stands_as c.args.given.now.sessions _ is.sessions in
    let transactions = c.is_some-4.ensures ∙ stands_as c.args.given.now.transactions _ is.transactions in
    (λ i. not ((((turns i || number i) || sessions i) || transactions i) || is.text i))
    ∙ none_of_five (is_some (value_of (codes "turns") uses)) (is_some (value_of (codes "number") uses)) (is_some (value_of (codes "sessions") uses)) (is_some (value_of (codes "transactions") uses)) (has (codes "text") uses)
