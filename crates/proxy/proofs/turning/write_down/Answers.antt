use Rattle.proxy.specs.Client.{wants}
use Rattle.proxy.specs.Standing.{setting_in, client_in}
use Rattle.proxy.proofs.TurnLemmas.{noted_here}
use Rattle.std.proofs.Common.{◌∙◌, sym}
use Rattle.proxy.proofs.turning.write_down.Goals as goal

pub returns-in_ok-push-in-Some-clause-log : goal.returns-in_ok-push-in-Some-clause-log
returns-in_ok-push-in-Some-clause-log c r w =
    noted_here c.args.log.now c.push.new.self c.in-Some.request r c.in_ok-reply-in-Some.reply c.args.got.now
    (wants (setting_in c.args.dialogue.now) (client_in c.args.dialogue.now)) c.in_ok-push-in-Some.ensures.ok
    (sym c.in-Some.is ∙ c.in_ok-request.ensures.wants) c.in_ok-reply-in-Some.ensures w
