use Rattle.std.proofs.Common.{◌≡◌, ℕ, ◌+◌, ◌<◌, ◌≤◌, suc, length, ap, sym, subst, arith}
use Rattle.mope_base.specs.declared.numbers.SessionNo.{SessionNo}
use Rattle.step_core.specs.Endings.{EndsFirst, EndsSession}
use Rattle.step_core.specs.Inside.{cored}
use Rattle.step_core.proofs.CoreSteps.{count-seen, few-seats, kept-of, number-of, sessions-seen}
use Rattle.step_core.proofs.Ended.{ends-first, ends-more}
use Rattle.step_core.proofs.stepping.Core.end_all.Goals as goal

pub sessions-init : goal.sessions-init
sessions-init g c = λ settings w u valid follows. ends-first settings w u c.args.self.now (g.H.Watch.tells c.args.watch.now) follows

pub overflow_cast-i : goal.overflow_cast-i
unfolding cored
overflow_cast-i g c =
    let few : length c.self.inside.seats.items ≤ 64 = (few-seats c.self.inside.state c.self.inside.seats.items c.self.inside.spent (kept-of c.self.inside.state c.self.inside.seats.items c.self.inside.spent c.args.self.now c.self.view_is c.requires) c.self.invariant) in
    omega (arith, few, c.sessions-test.true, c.len-sessions.ensures, c.self.inside.seats.ok.0)

pub overflow_add-i : goal.overflow_add-i
unfolding cored
overflow_add-i g c =
    let few : length c.self.inside.seats.items ≤ 64 = (few-seats c.self.inside.state c.self.inside.seats.items c.self.inside.spent (kept-of c.self.inside.state c.self.inside.seats.items c.self.inside.spent c.args.self.now c.self.view_is c.requires) c.self.invariant) in
    omega (arith, few, c.sessions-test.true, c.len-sessions.ensures, c.self.inside.seats.ok.0)

pub sessions-preserved : goal.sessions-preserved
unfolding cored
sessions-preserved g c = λ settings w u valid follows.
    let first : EndsFirst settings w u c.sessions.i c.sessions.self (g.H.Watch.tells c.args.watch.now) (g.H.Watch.tells c.sessions.watch) = c.sessions.invariant settings w u valid follows in
    let count : length w.sessions ≡ c.len-sessions.result = (sessions-seen settings w u c.args.self.now c.len-sessions.result follows (count-seen c.self.inside.state c.self.inside.seats.items c.self.inside.spent c.args.self.now c.len-sessions.result c.self.view_is (omega (arith, c.len-sessions.ensures, c.self.inside.seats.ok.0)))) in
    let less : c.sessions.i < length w.sessions = omega (arith, c.sessions-test.true, count) in
    let next : suc c.sessions.i ≡ c.sessions.i + 1 = omega arith in
    subst (λ (k : ℕ). EndsFirst settings w u k c.end.new.self (g.H.Watch.tells c.args.watch.now) (g.H.Watch.tells c.end.new.watch)) next
    (ends-more settings w u c.sessions.i c.sessions.self c.end.new.self (g.H.Watch.tells c.args.watch.now) (g.H.Watch.tells c.sessions.watch) (g.H.Watch.tells c.end.new.watch) valid less first
    (subst (λ (n : SessionNo). EndsSession settings w first.underway n c.end.new.self (g.H.Watch.tells c.sessions.watch) (g.H.Watch.tells c.end.new.watch)) (sym (number-of c.sessions.i))
    (c.in_ok-end.ensures.ends settings w first.underway valid first.follows))
    c.in_ok-end.ensures.stay)

pub returns : goal.returns
unfolding cored
returns g c = λ settings w u valid follows.
    let count : length w.sessions ≡ c.len-sessions.result = (sessions-seen settings w u c.args.self.now c.len-sessions.result follows (count-seen c.self.inside.state c.self.inside.seats.items c.self.inside.spent c.args.self.now c.len-sessions.result c.self.view_is (omega (arith, c.len-sessions.ensures, c.self.inside.seats.ok.0)))) in
    let all : c.sessions.i ≡ length w.sessions = omega (arith, c.sessions-test.false, c.sessions.auto.i-end, count) in
    subst (λ (k : ℕ). EndsFirst settings w u k c.sessions.self (g.H.Watch.tells c.args.watch.now) (g.H.Watch.tells c.sessions.watch)) all (c.sessions.invariant settings w u valid follows)
