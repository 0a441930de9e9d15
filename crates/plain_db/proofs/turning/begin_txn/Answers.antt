use Rattle.std.proofs.Common.{◌∙◌, ap, sym}
use Rattle.std.proofs.lemmas.Result.{on_ok_weaker}
use Rattle.workload.specs.Transaction.{work_of, wish_of, trial_of}
use Rattle.plain_db.specs.Running.{wish_shown, wish_by, moved_state}
use Rattle.plain_db.proofs.TurningLemmas.{wish-same, work-same, begun-ends, begun-commits}
use Rattle.plain_db.proofs.turning.begin_txn.Goals as goal

pub returns-in-Some : goal.returns-in-Some
unfolding wish_shown
returns-in-Some c =
    let trial = trial_of c.args.state.now.current c.args.acts.now in
    on_ok_weaker c.end_txn.result (λ done.
    begun-ends c.args.state.now c.end_txn.new.state c.args.s c.args.k c.args.ended c.in-Some.e c.in_ok-tried.tried (work_of trial) (wish_of c.args.rollback trial)
    (ap wish_shown (sym c.in-Some.is) ∙ c.end_at_begin.ensures ∙ ap (λ ops. wish_by c.in_ok-tried.full c.args.rollback ops) c.as_slice.ensures
    ∙ wish-same c.in_ok-tried.full c.args.rollback c.in_ok-tried.tried trial c.in_ok-tried.ensures.goes)
    (work-same c.in_ok-tried.full c.in_ok-tried.tried trial c.in_ok-tried.ensures.goes) done)
    (rw c.in_ok-tried.ensures.back at c.end_txn.ensures)

pub returns-in-None : goal.returns-in-None
unfolding wish_shown moved_state
returns-in-None c =
    let trial = trial_of c.args.state.now.current c.args.acts.now in
    on_ok_weaker c.moved.result (λ done.
    begun-commits c.args.state.now c.moved.new.state c.args.s c.args.k c.args.ended c.in_ok-tried.tried (work_of trial) (wish_of c.args.rollback trial)
    (ap wish_shown (sym c.in-None.is) ∙ c.end_at_begin.ensures ∙ ap (λ ops. wish_by c.in_ok-tried.full c.args.rollback ops) c.as_slice.ensures
    ∙ wish-same c.in_ok-tried.full c.args.rollback c.in_ok-tried.tried trial c.in_ok-tried.ensures.goes)
    (work-same c.in_ok-tried.full c.in_ok-tried.tried trial c.in_ok-tried.ensures.goes) done)
    (rw c.in_ok-tried.ensures.back at c.moved.ensures)
