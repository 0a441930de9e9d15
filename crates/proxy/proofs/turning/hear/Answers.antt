use Rattle.std.proofs.Common.{◌≡◌, ◌∙◌, ap, sym, subst, option_copied, Option, Some, None, true, false}
use Rattle.std.proofs.lemmas.Result.{on_ok_weaker}
use Rattle.walk_proto.specs.declared.messages.Reply.{Reply}
use Rattle.proxy.specs.declared.dialogue.Dialogue.{Dialogue}
use Rattle.proxy.specs.declared.turning.Stage.{Stage}
use Rattle.proxy.specs.declared.turning.Stage.TheVariants as stage
use Rattle.proxy.specs.Allowed.{allowed}
use Rattle.proxy.specs.Inside.{party_by, Holds, IsRunning}
use Rattle.proxy.specs.Party.{told, heard_if}
use Rattle.proxy.specs.Standing.{Fits, setting_in, client_in}
use Rattle.proxy.proofs.TurnLemmas.{holds_talking, holds_fresh, runs_now, runs_stuck, told_fresh, told_none, told_ended, told_stuck, told_reply, wants_some, reserved}
use Rattle.proxy.proofs.turning.hear.Goals as goal

pub returns-then-has_ended-clause-party : goal.returns-then-has_ended-clause-party
returns-then-has_ended-clause-party c =
    ap (λ (s : Stage). party_by c.args.dialogue.now c.args.keep c.args.log.now s) c.in-Talking.is
    ∙ told_ended c.args.dialogue.now c.args.keep c.args.log.now (option_copied c.args.reply) (c.has_ended.ensures.0 c.if-has_ended.true)
    ∙ ap (λ (s : Stage). told (option_copied c.args.reply) (party_by c.args.dialogue.now c.args.keep c.args.log.now s)) (sym c.in-Talking.is)

pub returns-then-has_ended-clause-running : goal.returns-then-has_ended-clause-running
returns-then-has_ended-clause-running c = runs_now c.args.stage.now c.in-Talking.is

pub hear_reply-requires-clause-fits : goal.hear_reply-requires-clause-fits
hear_reply-requires-clause-fits c = holds_talking c.args.stage.now c.args.dialogue.now c.in-Talking.is c.requires

pub returns-in_ok-reserve-in-Fresh-clause-party : goal.returns-in_ok-reserve-in-Fresh-clause-party
returns-in_ok-reserve-in-Fresh-clause-party c =
    ap (λ (d : Dialogue). party_by d c.args.keep c.args.log.now stage.Talking) (reserved c.args.dialogue.now c.reserve.new.self c.reserve.ensures)
    ∙ told_fresh c.args.dialogue.now c.args.keep c.args.log.now (option_copied c.args.reply)
    ∙ ap (λ (s : Stage). told (option_copied c.args.reply) (party_by c.args.dialogue.now c.args.keep c.args.log.now s)) (sym c.in-Fresh.is)

pub returns-in_ok-reserve-in-Fresh-clause-holds : goal.returns-in_ok-reserve-in-Fresh-clause-holds
unfolding Holds
returns-in_ok-reserve-in-Fresh-clause-holds c =
    subst Fits (sym (reserved c.args.dialogue.now c.reserve.new.self c.reserve.ensures)) (holds_fresh c.args.stage.now c.args.dialogue.now c.in-Fresh.is c.requires)

pub returns-in_ok-reserve-in-Fresh-clause-running : goal.returns-in_ok-reserve-in-Fresh-clause-running
unfolding IsRunning
returns-in_ok-reserve-in-Fresh-clause-running c = tt

pub returns-else-has_ended-clause-party : goal.returns-else-has_ended-clause-party
returns-else-has_ended-clause-party c =
    let some = wants_some (setting_in c.args.dialogue.now) (client_in c.args.dialogue.now)
    (λ none. absurd (let e : false ≡ true = sym c.if-has_ended.false ∙ c.has_ended.ensures.1 none in cc)) in
    on_ok_weaker c.hear_reply.result
    (λ party.
    told_reply c.args.dialogue.now c.args.keep c.args.log.now some.0 c.in-Some.got.now _ some.1
    (party some.0 some.1 ∙ ap (λ (s : Stage). heard_if (allowed (client_in c.args.dialogue.now) c.in-Some.got.now) some.0 c.in-Some.got.now (party_by c.args.dialogue.now c.args.keep c.args.log.now s)) c.in-Talking.is)
    ∙ ap (λ (s : Stage). told (Some c.in-Some.got.now) (party_by c.args.dialogue.now c.args.keep c.args.log.now s)) (sym c.in-Talking.is)
    ∙ ap (λ (o : Option Reply). told o (party_by c.args.dialogue.now c.args.keep c.args.log.now c.args.stage.now)) (sym (ap option_copied c.in-Some.is)))
    c.hear_reply.ensures.party

pub returns-in-None-clause-party : goal.returns-in-None-clause-party
returns-in-None-clause-party c =
    ap (λ (s : Stage). party_by c.args.dialogue.now c.args.keep c.args.log.now s) c.in-Talking.is
    ∙ told_none c.args.dialogue.now c.args.keep c.args.log.now
    ∙ ap (λ (s : Stage). told None (party_by c.args.dialogue.now c.args.keep c.args.log.now s)) (sym c.in-Talking.is)
    ∙ ap (λ (o : Option Reply). told o (party_by c.args.dialogue.now c.args.keep c.args.log.now c.args.stage.now)) (sym (ap option_copied c.in-None.is))

pub returns-in-None-clause-running : goal.returns-in-None-clause-running
returns-in-None-clause-running c = runs_now c.args.stage.now c.in-Talking.is

pub returns-in-Stuck-clause-party : goal.returns-in-Stuck-clause-party
returns-in-Stuck-clause-party c =
    ap (λ (s : Stage). party_by c.args.dialogue.now c.args.keep c.args.log.now s) c.in-Stuck.is
    ∙ told_stuck c.args.dialogue.now c.args.keep c.args.log.now c.in-Stuck.want c.in-Stuck.got (option_copied c.args.reply)
    ∙ ap (λ (s : Stage). told (option_copied c.args.reply) (party_by c.args.dialogue.now c.args.keep c.args.log.now s)) (sym c.in-Stuck.is)

pub returns-in-Stuck-clause-running : goal.returns-in-Stuck-clause-running
returns-in-Stuck-clause-running c = runs_stuck c.args.stage.now c.in-Stuck.want c.in-Stuck.got c.in-Stuck.is
