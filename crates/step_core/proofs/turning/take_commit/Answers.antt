use Rattle.txn_core.specs.Outcomes.{commit_kind}
use Rattle.step_core.proofs.Turned.{end-takes, commit-over}
use Rattle.step_core.proofs.turning.take_commit.Goals as goal

pub returns : goal.returns
returns c = λ h is.
    end-takes c.args.session (commit_kind c.args.state.now.current h.base.number h.touched h.ops) c.args.conn.now.conn c.args.state.now c.commit_on.new.state c.ended.new.self c.ended.result
    c.in_ok-how.how c.in_ok-how.table c.in_ok-how.number c.ended.ensures.request c.ended.ensures.step c.ended.ensures.fresh (c.in_ok-how.ensures.tells h is)
    (commit-over c.args.state.now.current h.base.number h.touched h.ops) (c.in_ok-how.ensures.turn h is) (c.in_ok-how.ensures.current h is) c.in_ok-how.ensures.first
