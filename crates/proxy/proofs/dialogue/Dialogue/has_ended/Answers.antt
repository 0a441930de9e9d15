use Rattle.std.proofs.Common.{◌≡◌, refl, true, false}
use Rattle.proxy.specs.Standing.{setting_in, client_in}
use Rattle.proxy.proofs.StandingLemmas.{wants_none, tasks_nothing}
use Rattle.proxy.proofs.TurnLemmas.{not_ended}
use Rattle.proxy.proofs.dialogue.Dialogue.has_ended.Goals as goal

pub returns-in-Nothing : goal.returns-in-Nothing
returns-in-Nothing c = (λ _. wants_none (setting_in c.args.self.now) (client_in c.args.self.now) (tasks_nothing c.args.self.now c.in-Nothing.is), λ _. refl)

pub returns-in_default : goal.returns-in_default
returns-in_default c = (λ t. absurd (let e : false ≡ true = t in cc), λ none. absurd (not_ended c.args.self.now c.in_default.not-Nothing none))
