use Rattle.std.proofs.Common.{◌≡◌, ◌∙◌, List, ap, sym, subst, map}
use Rattle.mope_base.specs.Lists.{Each}
use Rattle.proxy.specs.declared.outcomes.Finished.{Finished}
use Rattle.txn_core.specs.Courses.{Course}
use Rattle.step_core.specs.Cores.{Cored, HasReadable, Sitting}
use Rattle.step_core.specs.Inside.{IsFollowing, cored}
use Rattle.step_core.specs.Sittings.{HasFinished, finished_of}
use Rattle.step_core.proofs.CoreSteps.{following-of}
use Rattle.step_core.proofs.Finishes.{all-over, scripts-end, readable-end, turns-end, current-end, shows-end}
use Rattle.step_core.proofs.stepping.Core.finish.Goals as goal

pub finish_all-requires : goal.finish_all-requires
unfolding cored
finish_all-requires g c =
    let f : IsFollowing c.args.self = following-of c.self.inside.state c.self.inside.seats.items c.self.inside.spent c.args.self c.self.view_is c.if-self.false c.self.invariant in
    subst (λ (l : List Sitting). Each HasFinished l) (sym (ap (λ (d : Cored). d.sittings) c.core.view_is))
    (all-over f.settings f.workload f.underway c.end_all.new.self (g.H.Watch.tells c.args.watch.now) (g.H.Watch.tells c.end_all.new.watch) (c.in_ok-end_all.ensures f.settings f.workload f.underway f.valid f.follows))

pub returns-clause-scripts : goal.returns-clause-scripts
unfolding cored
returns-clause-scripts g c = λ settings w u valid follows.
    c.in_ok-finished.ensures ∙ ap (λ (l : List Sitting). map finished_of l) (ap (λ (d : Cored). d.sittings) c.core.view_is)
    ∙ scripts-end settings w u c.end_all.new.self (g.H.Watch.tells c.args.watch.now) (g.H.Watch.tells c.end_all.new.watch) valid (c.in_ok-end_all.ensures settings w u valid follows)

pub returns-clause-readable : goal.returns-clause-readable
unfolding cored
returns-clause-readable g c = λ settings w u valid follows.
    subst (λ (l : List Finished). Each HasReadable l) (sym (c.in_ok-finished.ensures ∙ ap (λ (l : List Sitting). map finished_of l) (ap (λ (d : Cored). d.sittings) c.core.view_is)))
    (readable-end settings w u c.end_all.new.self (g.H.Watch.tells c.args.watch.now) (g.H.Watch.tells c.end_all.new.watch) (c.in_ok-end_all.ensures settings w u valid follows))

pub returns-clause-turns : goal.returns-clause-turns
unfolding cored
returns-clause-turns g c = λ settings w u valid follows.
    ap (λ (d : Cored). d.state.turns) c.core.view_is
    ∙ turns-end settings w u c.end_all.new.self (g.H.Watch.tells c.args.watch.now) (g.H.Watch.tells c.end_all.new.watch) (c.in_ok-end_all.ensures settings w u valid follows)

pub returns-clause-current : goal.returns-clause-current
unfolding cored
returns-clause-current g c = λ settings w u valid follows.
    ap (λ (d : Cored). d.state.current) c.core.view_is
    ∙ current-end settings w u c.end_all.new.self (g.H.Watch.tells c.args.watch.now) (g.H.Watch.tells c.end_all.new.watch) (c.in_ok-end_all.ensures settings w u valid follows)

pub returns-clause-shows : goal.returns-clause-shows
returns-clause-shows g c = λ settings w u shown valid follows made.
    shows-end settings w u c.end_all.new.self (g.H.Watch.tells c.args.watch.now) (g.H.Watch.tells c.end_all.new.watch) valid (c.in_ok-end_all.ensures settings w u valid follows) shown made
