use Rattle.std.proofs.Common.{◌∙◌, ◌||◌, codes, is_some, not}
use Rattle.command_words.specs.Grammar.{has, value_of}
use Rattle.command_words.proofs.OrderLemmas.{none_of_five, stands_as}
use Rattle.command_words.proofs.order.has_generate_options_alone.Goals as goal

pub returns : goal.returns
returns c = λ uses is.
    let key = c.is_some.ensures ∙ stands_as c.args.given.now.key _ is.key in
    let first_nonce = c.is_some-2.ensures ∙ stands_as c.args.given.now.first_nonce _ is.first_nonce in
    let schedule = c.is_some-3.ensures ∙ stands_as c.args.given.now.schedule _ is.schedule in
    let turns = c.is_some-4.ensures ∙ stands_as c.args.given.now.turns _ is.turns in
    (λ i. not ((((key i || first_nonce i) || schedule i) || turns i) || is.view i))
    ∙ none_of_five (is_some (value_of (codes "key") uses)) (is_some (value_of (codes "first-nonce") uses)) (is_some (value_of (codes "schedule") uses)) (is_some (value_of (codes "turns") uses)) (has (codes "view") uses)
