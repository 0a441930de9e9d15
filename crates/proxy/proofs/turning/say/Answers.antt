use Rattle.std.proofs.Common.{◌∙◌, sym, ap}
use Rattle.proxy.specs.Client.{wants}
use Rattle.proxy.specs.Standing.{setting_in, client_in}
use Rattle.proxy.proofs.TurnLemmas.{holds_talking, said_send, said_done, said_strange}
use Rattle.proxy.proofs.turning.say.Goals as goal

pub request-requires : goal.request-requires
request-requires c = holds_talking c.args.stage.now c.args.dialogue.now c.in-Talking.is c.requires.holds

pub returns-in-Some-clause-says : goal.returns-in-Some-clause-says
returns-in-Some-clause-says c =
    said_send c.args.stage.now (wants (setting_in c.args.dialogue.now) (client_in c.args.dialogue.now)) c.in-Some.request c.in-Talking.is
    (sym c.in-Some.is ∙ c.in_ok-request-in-Talking.ensures.wants)

pub returns-in-None-clause-says : goal.returns-in-None-clause-says
returns-in-None-clause-says c =
    said_done c.args.stage.now (wants (setting_in c.args.dialogue.now) (client_in c.args.dialogue.now)) c.in-Talking.is
    (sym c.in-None.is ∙ c.in_ok-request-in-Talking.ensures.wants)

pub returns-in_ok-got-in-Stuck-clause-says : goal.returns-in_ok-got-in-Stuck-clause-says
returns-in_ok-got-in-Stuck-clause-says c =
    said_strange c.args.stage.now (wants (setting_in c.args.dialogue.now) (client_in c.args.dialogue.now)) c.in-Stuck.want c.in-Stuck.got c.in_ok-got-in-Stuck.got
    c.in-Stuck.is c.in_ok-got-in-Stuck.ensures
