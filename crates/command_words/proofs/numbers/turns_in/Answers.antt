use Rattle.std.proofs.Common.{◌∙◌, List, ap, map, subst, IfOk, MatchOption}
use Rattle.mope_base.specs.declared.numbers.SessionNo.{SessionNo}
use Rattle.command_words.specs.Orders.{AreSessions}
use Rattle.command_words.proofs.numbers.turns_in.Goals as goal

pub returns : goal.returns
returns c =
    subst (λ texts. IfOk c.sessions_of.result (λ found. MatchOption found ((turns : List SessionNo) → ¬ AreSessions texts turns) (λ turns. AreSessions texts turns)))
    (ap (λ l. map (λ x. x.now) l) c.deref.ensures.value ∙ c.in_ok-texts.ensures) c.sessions_of.ensures
