use Rattle.std.proofs.Common.{◌≡◌, ◌∙◌, ap, sym, refl, option_copied}
use Rattle.proxy.specs.declared.dialogue.Dialogue.{Dialogue}
use Rattle.proxy.specs.Client.{wants}
use Rattle.proxy.specs.Inside.{party_by, phase_in, Holds}
use Rattle.proxy.specs.Party.{Party, said, told}
use Rattle.proxy.specs.Standing.{setting_in, client_in}
use Rattle.proxy.proofs.TurnLemmas.{due_by, told_spent, not_spent}
use Rattle.proxy.proofs.client.Proxy.next.Goals as goal

pub invariant_of-self-in-Err-say : goal.invariant_of-self-in-Err-say
unfolding Holds
invariant_of-self-in-Err-say c = tt

pub invariant_of-self-in-Err : goal.invariant_of-self-in-Err
unfolding Holds
invariant_of-self-in-Err c = tt

pub returns-in-Ok-say-clause-says : goal.returns-in-Ok-say-clause-says
unfolding party_by
returns-in-Ok-say-clause-says c =
    ap (λ (d : Dialogue). said (phase_in c.hear.new.stage (wants (setting_in d) (client_in d)))) c.say.ensures.stays ∙ c.in-Ok-say.ensures.says

pub returns-in-Ok-say-clause-due : goal.returns-in-Ok-say-clause-due
unfolding party_by
returns-in-Ok-say-clause-due c = due_by c.hear.new.stage (setting_in c.say.new.dialogue) (client_in c.say.new.dialogue)

pub returns-in-Ok-say-clause-stays_spent : goal.returns-in-Ok-say-clause-stays_spent
unfolding party_by
returns-in-Ok-say-clause-stays_spent c is =
    absurd (not_spent c.hear.new.stage _ c.in-Ok.ensures.running
    (ap (λ (p : Party). p.phase) c.in-Ok.ensures.party
    ∙ told_spent (party_by c.self.inside.dialogue c.self.inside.keep c.self.inside.log c.self.inside.stage) (option_copied c.args.reply)
    (ap (λ (p : Party). p.phase) c.self.view_is ∙ is)))

pub returns-in-Err-say-clause-err : goal.returns-in-Err-say-clause-err
unfolding party_by phase_in
returns-in-Err-say-clause-err c = refl

pub returns-in-Err-clause-err : goal.returns-in-Err-clause-err
unfolding party_by phase_in
returns-in-Err-clause-err c = refl
