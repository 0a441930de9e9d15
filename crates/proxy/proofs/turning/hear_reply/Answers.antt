use Rattle.std.proofs.Common.{◌≡◌, ◌∙◌, ap, sym, subst}
use Rattle.std.proofs.lemmas.Result.{on_ok_weaker}
use Rattle.proxy.specs.declared.turning.Stage.{Stage}
use Rattle.proxy.specs.Allowed.{allowed}
use Rattle.proxy.specs.Inside.{party_by, Holds, IsRunning}
use Rattle.proxy.specs.Party.{heard_if}
use Rattle.proxy.specs.Standing.{client_in}
use Rattle.proxy.proofs.TurnLemmas.{heard_allowed, heard_refused, holds_now, runs_now, holds_stuck, runs_stuck}
use Rattle.proxy.proofs.turning.hear_reply.Goals as goal

pub returns-then-allows-clause-party : goal.returns-then-allows-clause-party
returns-then-allows-clause-party c =
    on_ok_weaker c.accept.result
    (λ both r w.
    ap (λ (s : Stage). party_by c.accept.new.dialogue c.args.keep c.accept.new.log s) c.requires.talking
    ∙ heard_allowed c.args.dialogue.now c.accept.new.dialogue c.args.keep c.args.log.now c.accept.new.log r c.args.got.now both.0
    (sym c.allows.ensures ∙ c.if-allows.true) (both.1 r w)
    ∙ ap (λ (s : Stage). heard_if (allowed (client_in c.args.dialogue.now) c.args.got.now) r c.args.got.now (party_by c.args.dialogue.now c.args.keep c.args.log.now s)) (sym c.requires.talking))
    c.accept.ensures

pub returns-then-allows-clause-holds : goal.returns-then-allows-clause-holds
returns-then-allows-clause-holds c =
    on_ok_weaker c.accept.result (λ both. holds_now c.args.stage.now c.accept.new.dialogue c.requires.talking both.0.fits) c.accept.ensures

pub returns-then-allows-clause-running : goal.returns-then-allows-clause-running
returns-then-allows-clause-running c =
    on_ok_weaker c.accept.result (λ both. runs_now c.args.stage.now c.requires.talking) c.accept.ensures

pub returns-in_ok-stage-clause-party : goal.returns-in_ok-stage-clause-party
returns-in_ok-stage-clause-party c r w =
    heard_refused c.args.dialogue.now c.args.keep c.args.log.now c.in_ok-stage.field-0 r c.args.got.now c.in_ok-stage.ensures
    (sym c.allows.ensures ∙ c.if-allows.false)
    ∙ ap (λ (s : Stage). heard_if (allowed (client_in c.args.dialogue.now) c.args.got.now) r c.args.got.now (party_by c.args.dialogue.now c.args.keep c.args.log.now s)) (sym c.requires.talking)

pub returns-in_ok-stage-clause-holds : goal.returns-in_ok-stage-clause-holds
returns-in_ok-stage-clause-holds c = holds_stuck c.in_ok-stage.field-0 c.args.dialogue.now _ _ c.in_ok-stage.ensures c.requires.fits

pub returns-in_ok-stage-clause-running : goal.returns-in_ok-stage-clause-running
returns-in_ok-stage-clause-running c = runs_stuck c.in_ok-stage.field-0 _ _ c.in_ok-stage.ensures
