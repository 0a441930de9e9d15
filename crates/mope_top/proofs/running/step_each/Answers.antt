use Rattle.std.proofs.Common.{get_or}
use Rattle.mope_top.proofs.Rounds.{Steps, each_first, walk_over, walk_stayed, walk_went}
use Rattle.mope_top.proofs.running.step_each.Goals.{then-branch, else-branch}
use Rattle.mope_top.proofs.running.step_each.Goals as goal

pub sessions-init : goal.sessions-init
sessions-init g c = each_first (g.H.Watch.tells c.args.watch.now) c.args.core.now

pub sessions-preserved : goal.sessions-preserved
sessions-preserved g c =
    let step : Steps (g.H.Watch.tells c.sessions.watch) (g.H.Watch.tells c.step.new.watch) c.sessions.core c.step.new.self (get_or c.args.sessions.now c.sessions.session-index (record { 0 = 0 })) c.in_ok-step.field-0 = record {
      follows = c.in_ok-step.ensures.follows;
      shows = c.in_ok-step.ensures.shows;
      ended = c.in_ok-step.ensures.ended;
      hears = c.in_ok-step.ensures.hears;
      unchanged = c.in_ok-step.ensures.unchanged;
    } in
    elim c.if-branch.branch [
      | then-branch w ↦
          walk_went (g.H.Watch.tells c.args.watch.now) (g.H.Watch.tells c.sessions.watch) (g.H.Watch.tells c.step.new.watch) c.args.core.now c.sessions.core c.step.new.self c.args.sessions.now
          c.sessions.session-index c.sessions.went c.in_ok-step.field-0 c.if-branch.went c.sessions-test.true c.sessions.invariant step w.if-branch.true w.went-is
      | else-branch w ↦
          walk_stayed (g.H.Watch.tells c.args.watch.now) (g.H.Watch.tells c.sessions.watch) (g.H.Watch.tells c.step.new.watch) c.args.core.now c.sessions.core c.step.new.self c.args.sessions.now
          c.sessions.session-index c.sessions.went c.in_ok-step.field-0 c.if-branch.went c.sessions-test.true c.sessions.invariant step w.if-branch.false w.went-is
    ]

pub returns-clause-follows : goal.returns-clause-follows
returns-clause-follows g c =
    (walk_over (g.H.Watch.tells c.args.watch.now) (g.H.Watch.tells c.sessions.watch) c.args.core.now c.sessions.core c.args.sessions.now c.sessions.session-index c.sessions.went c.sessions-test.false
    c.sessions.invariant).follows

pub returns-clause-shows : goal.returns-clause-shows
returns-clause-shows g c =
    (walk_over (g.H.Watch.tells c.args.watch.now) (g.H.Watch.tells c.sessions.watch) c.args.core.now c.sessions.core c.args.sessions.now c.sessions.session-index c.sessions.went c.sessions-test.false
    c.sessions.invariant).shows

pub returns-clause-rests : goal.returns-clause-rests
returns-clause-rests g c =
    (walk_over (g.H.Watch.tells c.args.watch.now) (g.H.Watch.tells c.sessions.watch) c.args.core.now c.sessions.core c.args.sessions.now c.sessions.session-index c.sessions.went c.sessions-test.false
    c.sessions.invariant).rests

pub returns-clause-unchanged : goal.returns-clause-unchanged
returns-clause-unchanged g c = c.sessions.invariant.unchanged

pub returns-clause-leads : goal.returns-clause-leads
returns-clause-leads g c = c.sessions.invariant.leads
