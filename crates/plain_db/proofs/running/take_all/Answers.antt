use Rattle.std.proofs.Common.{ap, subst, take}
use Rattle.std.proofs.lemmas.List.{take_all}
use Rattle.workload.specs.Run.{initial, take_turns}
use Rattle.plain_db.specs.Running.{ShowsRun}
use Rattle.plain_db.specs.Reached.{at_start}
use Rattle.plain_db.proofs.RunningLemmas.{turns-more, turns-reached}
use Rattle.plain_db.proofs.running.take_all.Goals as goal

pub turns-init : goal.turns-init
unfolding take_turns
turns-init c = c.requires.start

pub turn-requires-clause-reached : goal.turn-requires-clause-reached
turn-requires-clause-reached c =
    (take_turns (initial c.args.w.now) (take c.turns.i c.args.turns.now), c.turns.invariant, turns-reached c.args.w.now (initial c.args.w.now) (take c.turns.i c.args.turns.now) at_start)

pub turns-preserved : goal.turns-preserved
turns-preserved c =
    subst (ShowsRun c.args.w.now c.turn.new.state) (turns-more (initial c.args.w.now) c.args.turns.now c.turns.i _ c.turns-test.true)
    (c.in_ok-turn.ensures (take_turns (initial c.args.w.now) (take c.turns.i c.args.turns.now)) c.turns.invariant
    (turns-reached c.args.w.now (initial c.args.w.now) (take c.turns.i c.args.turns.now) at_start))

pub returns : goal.returns
returns c =
    subst (ShowsRun c.args.w.now c.turns.state) (ap (λ l. take_turns (initial c.args.w.now) l) (take_all c.turns.i c.args.turns.now c.turns-test.false)) c.turns.invariant
