use Rattle.std.proofs.Common.{◌∙◌, ◌||◌, codes, is_some, not}
use Rattle.command_words.specs.Grammar.{has, value_of}
use Rattle.command_words.proofs.OrderLemmas.{none_of, stands_as}
use Rattle.command_words.proofs.order.has_turns_alone.Goals as goal

pub returns : goal.returns
returns c = λ uses is.
    let key = c.is_some.ensures ∙ stands_as c.args.given.now.key _ is.key in
    let first_nonce = c.is_some-2.ensures ∙ stands_as c.args.given.now.first_nonce _ is.first_nonce in
    let mode = c.is_some-3.ensures ∙ stands_as c.args.given.now.mode _ is.mode in
    let schedule = c.is_some-4.ensures ∙ stands_as c.args.given.now.schedule _ is.schedule in
    let number = c.is_some-5.ensures ∙ stands_as c.args.given.now.number _ is.number in
    let sessions = c.is_some-6.ensures ∙ stands_as c.args.given.now.sessions _ is.sessions in
    let transactions = c.is_some-7.ensures ∙ stands_as c.args.given.now.transactions _ is.transactions in
    (λ i. not (((((((key i || first_nonce i) || mode i) || schedule i) || number i) || sessions i) || transactions i) || (is.view i || is.text i)))
    ∙ none_of (is_some (value_of (codes "key") uses)) (is_some (value_of (codes "first-nonce") uses)) (is_some (value_of (codes "mode") uses)) (is_some (value_of (codes "schedule") uses)) (is_some (value_of (codes "number") uses)) (is_some (value_of (codes "sessions") uses)) (is_some (value_of (codes "transactions") uses)) (has (codes "view") uses) (has (codes "text") uses)
