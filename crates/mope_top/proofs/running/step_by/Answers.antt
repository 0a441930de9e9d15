use Rattle.std.proofs.Common.{◌≡◌, ◌∙◌, sym, ap, subst, List, []}
use Rattle.command_words.specs.declared.order.Schedule.{Schedule}
use Rattle.command_words.specs.declared.order.Schedule.TheVariants.{Listed}
use Rattle.mope_base.specs.declared.numbers.SessionNo.{SessionNo}
use Rattle.mope_top.specs.Ran.{HasCome}
use Rattle.mope_top.proofs.RanLemmas.{come_as_listed, come_in_rounds, none_made}
use Rattle.run_laws.specs.Schedules.{first_underway}
use Rattle.step_core.specs.Cores.{run_setting}
use Rattle.workload.specs.declared.script.Piece.{Piece}
use Rattle.workload.specs.Run.{session_numbers}
use Rattle.mope_top.proofs.running.step_by.Goals as goal

pub returns-in_ok-step_rounds-in-Round : goal.returns-in_ok-step_rounds-in-Round
returns-in_ok-step_rounds-in-Round g c = λ settings follows.
    let are : c.deref.result.now ≡ session_numbers 1 c.args.w.now.sessions =
    c.deref.ensures.value ∙ c.in_ok-sessions-in-Round.ensures ∙ ap (λ (l : List (List Piece)). session_numbers 1 l) c.as_slice.ensures in
    subst (λ (schedule : Schedule). HasCome settings c.args.w.now schedule c.step_rounds.new.core (g.H.Watch.tells c.args.watch.now) (g.H.Watch.tells c.step_rounds.new.watch)) (sym c.in-Round.is)
    (come_in_rounds settings c.args.w.now c.step_rounds.new.core (g.H.Watch.tells c.args.watch.now) (g.H.Watch.tells c.step_rounds.new.watch) c.deref.result.now c.requires are
    (c.in_ok-step_rounds-in-Round.ensures settings c.args.w.now (first_underway (run_setting settings) c.args.w.now) [] c.requires follows (none_made (run_setting settings) c.args.w.now)))

pub returns-in_ok-step_each-in-Listed : goal.returns-in_ok-step_each-in-Listed
returns-in_ok-step_each-in-Listed g c = λ settings follows.
    let is : c.args.schedule.now ≡ Listed c.as_slice-in-Listed.result.now = c.in-Listed.is ∙ ap (λ (l : List SessionNo). Listed l) (sym c.as_slice-in-Listed.ensures) in
    subst (λ (schedule : Schedule). HasCome settings c.args.w.now schedule c.step_each.new.core (g.H.Watch.tells c.args.watch.now) (g.H.Watch.tells c.step_each.new.watch)) (sym is)
    (come_as_listed settings c.args.w.now c.step_each.new.core (g.H.Watch.tells c.args.watch.now) (g.H.Watch.tells c.step_each.new.watch) c.as_slice-in-Listed.result.now
    (c.in_ok-step_each-in-Listed.ensures.follows settings c.args.w.now (first_underway (run_setting settings) c.args.w.now) c.requires follows)
    (c.in_ok-step_each-in-Listed.ensures.shows settings c.args.w.now (first_underway (run_setting settings) c.args.w.now) [] c.requires follows (none_made (run_setting settings) c.args.w.now)))
