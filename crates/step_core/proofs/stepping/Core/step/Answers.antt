use Rattle.std.proofs.Common.{◌≡◌, refl, sym, ◌∙◌, ap, subst, arith, false}
use Rattle.mope_base.specs.declared.numbers.SessionNo.{SessionNo}
use Rattle.run_laws.specs.Schedules.{stepped}
use Rattle.run_laws.specs.ScheduleLaws.{HasNothingLeft}
use Rattle.step_core.specs.Cores.{Follows, run_setting}
use Rattle.step_core.specs.Inside.{IsCore, cored}
use Rattle.step_core.specs.Shown.{AreMade, GrowsTo}
use Rattle.step_core.proofs.CoreSteps.{IsPlace, seen-as, follows-seen, place-of, none-left-of, none-stays, count-seen, went-follows, went-heard}
use Rattle.step_core.proofs.Stepped.{nothing-shown}
use Rattle.step_core.proofs.stepping.Core.step.Goals as goal

pub returns-then-place-len-clause-follows : goal.returns-then-place-len-clause-follows
unfolding cored
returns-then-place-len-clause-follows g c = λ settings w u valid follows.
    subst (λ v. Follows settings w v c.args.self.now) (sym (none-stays settings w u c.args.self.now c.args.session c.place_of-place.result c.len.result follows (count-seen c.self.inside.state c.self.inside.seats.items c.self.inside.spent c.args.self.now c.len.result c.self.view_is (omega (arith, c.len.ensures, c.self.inside.seats.ok.0))) (record { session = c.place_of-place.ensures.session; none = c.place_of-place.ensures.none }) c.if-place-len.true)) follows

pub returns-then-place-len-clause-ended : goal.returns-then-place-len-clause-ended
unfolding cored
returns-then-place-len-clause-ended g c = λ settings w u valid follows.
    ((λ _. none-left-of settings w u c.args.self.now c.args.session c.place_of-place.result c.len.result follows (count-seen c.self.inside.state c.self.inside.seats.items c.self.inside.spent c.args.self.now c.len.result c.self.view_is (omega (arith, c.len.ensures, c.self.inside.seats.ok.0))) (record { session = c.place_of-place.ensures.session; none = c.place_of-place.ensures.none }) c.if-place-len.true), (λ _. refl))

pub returns-then-place-len-clause-shows : goal.returns-then-place-len-clause-shows
unfolding cored
returns-then-place-len-clause-shows g c = λ settings w u shown valid follows made.
    nothing-shown (g.H.Watch.tells c.args.watch.now) (g.H.Watch.tells c.args.watch.now) w u (stepped (run_setting settings) u c.args.session) shown
    (none-stays settings w u c.args.self.now c.args.session c.place_of-place.result c.len.result follows (count-seen c.self.inside.state c.self.inside.seats.items c.self.inside.spent c.args.self.now c.len.result c.self.view_is (omega (arith, c.len.ensures, c.self.inside.seats.ok.0))) (record { session = c.place_of-place.ensures.session; none = c.place_of-place.ensures.none }) c.if-place-len.true) made (λ earlier tells. tells)

pub invariant_of-self-in-Err : goal.invariant_of-self-in-Err
unfolding IsCore
invariant_of-self-in-Err g c = tt

pub returns-in-Ok-clause-follows : goal.returns-in-Ok-clause-follows
unfolding cored
returns-in-Ok-clause-follows g c = λ settings w u valid follows.
    went-follows c.self.inside.state c.exchange_at.new.state c.self.inside.seats.items c.exchange_at.new.seats.items c.self.inside.spent c.args.self.now c.args.session _ c.self.view_is c.if-self.false
    (place-of c.args.session c.place_of-place.result c.len.result c.len.type_inv (record { session = c.place_of-place.ensures.session; none = c.place_of-place.ensures.none }) c.if-place-len.false) c.in-Ok.ensures.follows settings w u valid follows

pub returns-in-Ok-clause-ended : goal.returns-in-Ok-clause-ended
unfolding cored
returns-in-Ok-clause-ended g c = λ settings w u valid follows.
    subst (λ n. (c.in-Ok.went ≡ false → HasNothingLeft u n) × (HasNothingLeft u n → c.in-Ok.went ≡ false)) (place-of c.args.session c.place_of-place.result c.len.result c.len.type_inv (record { session = c.place_of-place.ensures.session; none = c.place_of-place.ensures.none }) c.if-place-len.false)
    (c.in-Ok.ensures.ended settings w u valid (follows-seen c.self.inside.state c.self.inside.seats.items c.self.inside.spent c.args.self.now c.self.view_is c.if-self.false settings w u follows))

pub returns-in-Ok-clause-unchanged : goal.returns-in-Ok-clause-unchanged
unfolding cored
returns-in-Ok-clause-unchanged g c = λ ended.
    ap (λ b. cored c.exchange_at.new.state c.exchange_at.new.seats.items b) c.if-self.false ∙ c.in-Ok.ensures.unchanged ended ∙ seen-as c.self.inside.state c.self.inside.seats.items c.self.inside.spent c.args.self.now c.self.view_is c.if-self.false

pub returns-in-Ok-clause-hears : goal.returns-in-Ok-clause-hears
unfolding cored
returns-in-Ok-clause-hears g c = λ went.
    went-heard c.self.inside.state c.self.inside.seats.items c.self.inside.spent c.args.self.now c.exchange_at.new.seats.items c.args.session c.place_of-place.result c.self.view_is (place-of c.args.session c.place_of-place.result c.len.result c.len.type_inv (record { session = c.place_of-place.ensures.session; none = c.place_of-place.ensures.none }) c.if-place-len.false) (c.in-Ok.ensures.hears went)

pub returns-in-Ok-clause-shows : goal.returns-in-Ok-clause-shows
unfolding cored
returns-in-Ok-clause-shows g c = λ settings w u shown valid follows made.
    subst (λ n. GrowsTo (g.H.Watch.tells c.args.watch.now) (g.H.Watch.tells c.exchange_at.new.watch) shown (AreMade w (stepped (run_setting settings) u n))) (place-of c.args.session c.place_of-place.result c.len.result c.len.type_inv (record { session = c.place_of-place.ensures.session; none = c.place_of-place.ensures.none }) c.if-place-len.false)
    (c.in-Ok.ensures.shows settings w u shown valid (follows-seen c.self.inside.state c.self.inside.seats.items c.self.inside.spent c.args.self.now c.self.view_is c.if-self.false settings w u follows) made)
