use Rattle.mope_top.proofs.LessWork.{leads_less}
use Rattle.mope_top.proofs.Rounds.{StepsEach}
use Rattle.mope_top.proofs.RoundsOnLemmas.{rounds_end, rounds_go_on, rounds_none}
use Rattle.mope_top.proofs.running.step_rounds.Goals as goal

pub rounds-init : goal.rounds-init
rounds-init g c = rounds_none (g.H.Watch.tells c.args.watch.now) c.args.core.now c.args.sessions.now

pub rounds-smaller : goal.rounds-smaller
rounds-smaller g c = leads_less c.rounds.core c.step_each.new.core (c.in_ok-step_each.ensures.leads c.if-branch.true)

pub rounds-preserved : goal.rounds-preserved
rounds-preserved g c =
    let steps : StepsEach (g.H.Watch.tells c.rounds.watch) (g.H.Watch.tells c.step_each.new.watch) c.rounds.core c.step_each.new.core c.args.sessions.now c.in_ok-step_each.field-0 = record {
      follows = c.in_ok-step_each.ensures.follows;
      shows = c.in_ok-step_each.ensures.shows;
      rests = c.in_ok-step_each.ensures.rests;
      unchanged = c.in_ok-step_each.ensures.unchanged;
      leads = c.in_ok-step_each.ensures.leads;
    } in
    rounds_go_on (g.H.Watch.tells c.args.watch.now) (g.H.Watch.tells c.rounds.watch) (g.H.Watch.tells c.step_each.new.watch) c.args.core.now c.rounds.core c.step_each.new.core c.args.sessions.now
    c.in_ok-step_each.field-0 c.rounds.invariant steps

pub returns : goal.returns
returns g c =
    let steps : StepsEach (g.H.Watch.tells c.rounds.watch) (g.H.Watch.tells c.step_each.new.watch) c.rounds.core c.step_each.new.core c.args.sessions.now c.in_ok-step_each.field-0 = record {
      follows = c.in_ok-step_each.ensures.follows;
      shows = c.in_ok-step_each.ensures.shows;
      rests = c.in_ok-step_each.ensures.rests;
      unchanged = c.in_ok-step_each.ensures.unchanged;
      leads = c.in_ok-step_each.ensures.leads;
    } in
    rounds_end (g.H.Watch.tells c.args.watch.now) (g.H.Watch.tells c.rounds.watch) (g.H.Watch.tells c.step_each.new.watch) c.args.core.now c.rounds.core c.step_each.new.core c.args.sessions.now
    c.in_ok-step_each.field-0 c.rounds.invariant steps c.if-branch.false
