use Rattle.workload.specs.Run.{initial, take_turns, run}
use Rattle.plain_db.specs.Reached.{at_start}
use Rattle.plain_db.proofs.RunningLemmas.{turns-reached, gives-turns, gives-history}
use Rattle.plain_db.proofs.running.run_turns.Goals as goal

pub finish_all-requires-clause-reached : goal.finish_all-requires-clause-reached
finish_all-requires-clause-reached c =
    (take_turns (initial c.args.w.now) c.args.turns.now, c.in_ok-take_all.ensures, turns-reached c.args.w.now (initial c.args.w.now) c.args.turns.now at_start)

pub returns-clause-turns : goal.returns-clause-turns
unfolding run
returns-clause-turns c =
    gives-turns c.args.w.now c.args.turns.now c.finish_all.new.state
    (c.in_ok-finish_all.ensures (take_turns (initial c.args.w.now) c.args.turns.now) c.in_ok-take_all.ensures (turns-reached c.args.w.now (initial c.args.w.now) c.args.turns.now at_start))

pub returns-clause-history : goal.returns-clause-history
unfolding run
returns-clause-history c =
    gives-history c.args.w.now c.args.turns.now c.finish_all.new.state c.in_ok-in_history_order.field-0
    (c.in_ok-finish_all.ensures (take_turns (initial c.args.w.now) c.args.turns.now) c.in_ok-take_all.ensures (turns-reached c.args.w.now (initial c.args.w.now) c.args.turns.now at_start))
    c.in_ok-in_history_order.ensures
