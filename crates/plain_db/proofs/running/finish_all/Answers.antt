use Rattle.std.proofs.Common.{ap, List, length, arith}
use Rattle.workload.specs.declared.script.Piece.{Piece}
use Rattle.workload.specs.Run.{finished_sessions, session_numbers}
use Rattle.plain_db.proofs.RunningLemmas.{sessions-start, sessions-more, sessions-end}
use Rattle.plain_db.proofs.running.finish_all.Goals as goal

pub sessions-init : goal.sessions-init
sessions-init c = λ r shows reached. sessions-start c.args.w.now c.args.state.now r shows reached

pub finish_session-requires-clause-reached : goal.finish_session-requires-clause-reached
finish_session-requires-clause-reached c =
    let finishing = c.sessions.invariant c.requires.reached.0 c.requires.reached.1 c.requires.reached.2 in
    (finishing.now, finishing.shows, finishing.reached)

pub sessions-preserved : goal.sessions-preserved
sessions-preserved c = λ r shows reached.
    let finishing = c.sessions.invariant r shows reached in
    sessions-more c.args.w.now c.sessions.state c.finish_session.new.state c.sessions.k _ _ (finished_sessions r (session_numbers 1 c.args.w.now.sessions)) finishing
    (omega (arith, c.sessions-test.true, ap (λ (l : List (List Piece)). length l) c.as_slice-count.ensures)) (omega arith) (omega arith)
    (c.in_ok-finish_session.ensures finishing.now finishing.shows finishing.reached)

pub returns : goal.returns
returns c = λ r shows reached.
    sessions-end c.args.w.now c.sessions.state c.sessions.k (finished_sessions r (session_numbers 1 c.args.w.now.sessions))
    (omega (arith, c.sessions-test.false, ap (λ (l : List (List Piece)). length l) c.as_slice-count.ensures))
    (c.sessions.invariant r shows reached)
