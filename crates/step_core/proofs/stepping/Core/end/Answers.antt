use Rattle.std.proofs.Common.{◌≡◌, ℕ, OnOk, sym, subst}
use Rattle.std.proofs.lemmas.Result.{err_from_is_err_and}
use Rattle.step_core.specs.Cores.{Cored}
use Rattle.step_core.specs.Endings.{EndsSession, FirstFinished}
use Rattle.step_core.proofs.Ended.{nears-first, nears-on, nears-end, heard-first, heard-less}
use Rattle.step_core.proofs.stepping.Core.end.Goals as goal

pub exchanges-init : goal.exchanges-init
exchanges-init g c = (
  (λ settings w u valid follows. nears-first settings w u c.args.session c.args.self.now (g.H.Watch.tells c.args.watch.now) follows),
  (λ k first. first),
)

pub returns-in_err-went-clause-ends : goal.returns-in_err-went-clause-ends
returns-in_err-went-clause-ends g c = λ settings w u valid follows.
    let p = err_from_is_err_and c.from_residual.result c.from_residual.ensures.1 in
    subst (λ r. OnOk r (EndsSession settings w u c.args.session c.step.new.self (g.H.Watch.tells c.args.watch.now) (g.H.Watch.tells c.step.new.watch))) (sym p.1) tt

pub returns-in_err-went-clause-stay : goal.returns-in_err-went-clause-stay
returns-in_err-went-clause-stay g c =
    let p = err_from_is_err_and c.from_residual.result c.from_residual.ensures.1 in
    subst (λ r. OnOk r ((k : ℕ) → FirstFinished k c.args.self.now.sittings → FirstFinished k c.step.new.self.sittings)) (sym p.1) tt

pub returns-then-not-went-clause-ends : goal.returns-then-not-went-clause-ends
returns-then-not-went-clause-ends g c = λ settings w u valid follows.
    nears-end settings w u c.args.session c.exchanges.self c.step.new.self (g.H.Watch.tells c.args.watch.now) (g.H.Watch.tells c.exchanges.watch) (g.H.Watch.tells c.step.new.watch) (c.exchanges.invariant.0 settings w u valid follows)
    ((c.in_ok-went.ensures.ended settings w (c.exchanges.invariant.0 settings w u valid follows).underway valid (c.exchanges.invariant.0 settings w u valid follows).follows).0 c.if-not-went.true)
    (c.in_ok-went.ensures.follows settings w (c.exchanges.invariant.0 settings w u valid follows).underway valid (c.exchanges.invariant.0 settings w u valid follows).follows)
    (λ shown made. c.in_ok-went.ensures.shows settings w (c.exchanges.invariant.0 settings w u valid follows).underway shown valid (c.exchanges.invariant.0 settings w u valid follows).follows made)

pub returns-then-not-went-clause-stay : goal.returns-then-not-went-clause-stay
returns-then-not-went-clause-stay g c = λ k first. subst (λ (x : Cored). FirstFinished k x.sittings) (sym (c.in_ok-went.ensures.unchanged c.if-not-went.true)) (c.exchanges.invariant.1 k first)

pub exchanges-smaller : goal.exchanges-smaller
exchanges-smaller g c = heard-less c.args.session c.exchanges.self.sittings c.step.new.self.sittings (c.in_ok-went.ensures.hears c.if-not-went.false)

pub exchanges-preserved : goal.exchanges-preserved
exchanges-preserved g c = (
  (λ settings w u valid follows.
      nears-on settings w u c.args.session c.exchanges.self c.step.new.self (g.H.Watch.tells c.args.watch.now) (g.H.Watch.tells c.exchanges.watch) (g.H.Watch.tells c.step.new.watch) (c.exchanges.invariant.0 settings w u valid follows)
      (c.in_ok-went.ensures.follows settings w (c.exchanges.invariant.0 settings w u valid follows).underway valid (c.exchanges.invariant.0 settings w u valid follows).follows)
      (λ shown made. c.in_ok-went.ensures.shows settings w (c.exchanges.invariant.0 settings w u valid follows).underway shown valid (c.exchanges.invariant.0 settings w u valid follows).follows made)),
  (λ k first. heard-first c.args.session c.exchanges.self.sittings c.step.new.self.sittings (c.in_ok-went.ensures.hears c.if-not-went.false) k (c.exchanges.invariant.1 k first)),
)
