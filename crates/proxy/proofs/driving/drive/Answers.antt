use Rattle.std.proofs.Common.{◌≡◌, ◌∙◌, ◌++◌, ◌∷◌, [], List, Some, IfOk, subst, ap, sym, refl, append_assoc, append-nil}
use Rattle.std.proofs.lemmas.Result.{err_from_is_err_and}
use Rattle.walk_proto.specs.declared.messages.Exchange.{Exchange}
use Rattle.proxy.specs.Party.{DrivenOver}
use Rattle.proxy.specs.Talk.{Talk}
use Rattle.proxy.proofs.DriveLemmas.{one, comes_begun, comes_moved, talk_of, talk_next, said_sends, said_ends, work_less, driven_to_end, driven_to_stop}
use Rattle.proxy.proofs.driving.drive.Goals as goal

pub returns-in_err-step : goal.returns-in_err-step
unfolding Talk
returns-in_err-step g c =
    let p = err_from_is_err_and c.from_residual.result c.from_residual.ensures.1 in
    record { adds = ([], sym (append-nil _), tt, subst (λ r. IfOk r (DrivenOver c.args.proxy [])) (sym p.1) tt) }

pub exchanges-init : goal.exchanges-init
exchanges-init g c = ([], sym (append-nil _), comes_begun c.args.proxy c.next.new.self c.in_ok-step.step c.in_ok-step.ensures.moves c.in_ok-step.ensures.says c.in_ok-step.ensures.due, c.in_ok-step.ensures.says)

pub returns-in_err-reply-in-Send : goal.returns-in_err-reply-in-Send
returns-in_err-reply-in-Send g c =
    let p = err_from_is_err_and c.from_residual-in_err-reply-in-Send.result c.from_residual-in_err-reply-in-Send.ensures.1 in
    record {
      adds = (
        c.exchanges.invariant.0,
        c.in_err-reply-in-Send.ensures.err ∙ c.exchanges.invariant.1,
        talk_of c.args.proxy c.exchanges.proxy c.exchanges.invariant.0 c.exchanges.invariant.2,
        subst (λ r. IfOk r (DrivenOver c.args.proxy c.exchanges.invariant.0)) (sym p.1) tt,
      );
    }

pub returns-in_err-step-in-Send : goal.returns-in_err-step-in-Send
returns-in_err-step-in-Send g c =
    let p = err_from_is_err_and c.from_residual-in_err-step-in-Send.result c.from_residual-in_err-step-in-Send.ensures.1 in
    record {
      adds = (
        c.exchanges.invariant.0 ++ one c.in-Send.request c.in_ok-reply-in-Send.reply ∷ [],
        c.in_ok-reply-in-Send.ensures.ok
            ∙ ap (λ (l : List Exchange). l ++ one c.in-Send.request c.in_ok-reply-in-Send.reply ∷ []) c.exchanges.invariant.1
            ∙ append_assoc _ c.exchanges.invariant.0 (one c.in-Send.request c.in_ok-reply-in-Send.reply ∷ []),
        talk_next c.args.proxy c.exchanges.proxy c.exchanges.invariant.0 c.in-Send.request c.in_ok-reply-in-Send.reply
            (said_sends c.exchanges.proxy.phase c.in-Send.request (c.exchanges.invariant.3 ∙ ap (λ s. Some s) c.in-Send.is)) c.exchanges.invariant.2,
        subst (λ r. IfOk r (DrivenOver c.args.proxy (c.exchanges.invariant.0 ++ one c.in-Send.request c.in_ok-reply-in-Send.reply ∷ []))) (sym p.1) tt,
      );
    }

pub exchanges-smaller : goal.exchanges-smaller
exchanges-smaller g c =
    work_less c.exchanges.proxy c.hand.new.proxy c.in-Send.request c.in_ok-reply-in-Send.reply
    (said_sends c.exchanges.proxy.phase c.in-Send.request (c.exchanges.invariant.3 ∙ ap (λ s. Some s) c.in-Send.is)) c.in_ok-step-in-Send.ensures.moves

pub exchanges-preserved : goal.exchanges-preserved
exchanges-preserved g c = (
  c.exchanges.invariant.0 ++ one c.in-Send.request c.in_ok-reply-in-Send.reply ∷ [],
  c.in_ok-reply-in-Send.ensures.ok
      ∙ ap (λ (l : List Exchange). l ++ one c.in-Send.request c.in_ok-reply-in-Send.reply ∷ []) c.exchanges.invariant.1
      ∙ append_assoc _ c.exchanges.invariant.0 (one c.in-Send.request c.in_ok-reply-in-Send.reply ∷ []),
  comes_moved c.args.proxy c.exchanges.proxy c.hand.new.proxy c.exchanges.invariant.0 c.in-Send.request c.in_ok-reply-in-Send.reply
      (c.exchanges.invariant.3 ∙ ap (λ s. Some s) c.in-Send.is) c.exchanges.invariant.2 c.in_ok-step-in-Send.ensures.moves,
  c.in_ok-step-in-Send.ensures.says,
)

pub finish-requires : goal.finish-requires
finish-requires g c = said_ends c.exchanges.proxy.phase (c.exchanges.invariant.3 ∙ ap (λ s. Some s) c.in-Done.is)

pub returns-in-Done : goal.returns-in-Done
returns-in-Done g c = record {
  adds = (
    c.exchanges.invariant.0,
    c.exchanges.invariant.1,
    talk_of c.args.proxy c.exchanges.proxy c.exchanges.invariant.0 c.exchanges.invariant.2,
    driven_to_end c.args.proxy c.exchanges.proxy c.exchanges.invariant.0 c.finish.result (c.exchanges.invariant.3 ∙ ap (λ s. Some s) c.in-Done.is)
        c.exchanges.invariant.2 c.finish.ensures.transactions c.finish.ensures.log,
  );
}

pub returns-in-Strange : goal.returns-in-Strange
returns-in-Strange g c = record {
  adds = (
    c.exchanges.invariant.0,
    c.exchanges.invariant.1,
    talk_of c.args.proxy c.exchanges.proxy c.exchanges.invariant.0 c.exchanges.invariant.2,
    driven_to_stop c.args.proxy c.exchanges.proxy c.exchanges.invariant.0 c.in-Strange.want c.in-Strange.got
        (c.exchanges.invariant.3 ∙ ap (λ s. Some s) c.in-Strange.is) c.exchanges.invariant.2,
  );
}
