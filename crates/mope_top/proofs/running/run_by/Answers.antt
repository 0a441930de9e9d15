use Rattle.mope_top.specs.Ran.{HasCome}
use Rattle.mope_top.proofs.RanLemmas.{Ends, ends_ran}
use Rattle.run_laws.specs.Schedules.{Underway, first_underway, scheduled}
use Rattle.step_core.specs.Cores.{run_setting}
use Rattle.mope_top.proofs.running.run_by.Goals as goal

pub returns : goal.returns
returns g c =
    let come : HasCome c.args.settings c.args.w.now c.args.schedule.now c.step_by.new.core (g.H.Watch.tells c.args.watch.now) (g.H.Watch.tells c.step_by.new.watch) =
    c.in_ok-step_by.ensures c.args.settings c.in_ok-core.ensures.follows in
    let u : Underway = scheduled (run_setting c.args.settings) (first_underway (run_setting c.args.settings) c.args.w.now) come.entries in
    let ends : Ends c.args.settings c.args.w.now u c.in_ok-ends.ends.0 c.in_ok-ends.ends.1 (g.H.Watch.tells c.step_by.new.watch) (g.H.Watch.tells c.finish.new.watch) = record {
      scripts = c.in_ok-ends.ensures.scripts c.args.settings c.args.w.now u c.requires.valid come.follows;
      readable = c.in_ok-ends.ensures.readable c.args.settings c.args.w.now u c.requires.valid come.follows;
      turns = c.in_ok-ends.ensures.turns c.args.settings c.args.w.now u c.requires.valid come.follows;
      current = c.in_ok-ends.ensures.current c.args.settings c.args.w.now u c.requires.valid come.follows;
      shows = λ shown made. c.in_ok-ends.ensures.shows c.args.settings c.args.w.now u shown c.requires.valid come.follows made;
    } in
    ends_ran c.args.settings c.args.w.now c.args.schedule.now c.step_by.new.core c.in_ok-ends.ends.0 c.in_ok-ends.ends.1 (g.H.Watch.tells c.args.watch.now) (g.H.Watch.tells c.step_by.new.watch)
    (g.H.Watch.tells c.finish.new.watch) come ends
