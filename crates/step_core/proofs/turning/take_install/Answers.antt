use Rattle.txn_core.specs.Outcomes.{install_kind}
use Rattle.step_core.proofs.Turned.{end-takes, install-over}
use Rattle.step_core.proofs.turning.take_install.Goals as goal

pub returns : goal.returns
returns c = λ h is.
    end-takes c.args.session (install_kind c.args.state.now.current h.base.number c.args.table c.args.column) c.args.conn.now.conn c.args.state.now c.install_on.new.state c.ended.new.self c.ended.result
    c.in_ok-how.how c.in_ok-how.table c.in_ok-how.number c.ended.ensures.request c.ended.ensures.step c.ended.ensures.fresh (c.in_ok-how.ensures.tells h is)
    (install-over c.args.state.now.current h.base.number c.args.table c.args.column) (c.in_ok-how.ensures.turn h is) (c.in_ok-how.ensures.current h is) c.in_ok-how.ensures.first
