use Rattle.std.proofs.Common.{◌≡◌, ◌+◌, suc, arith}
use Rattle.mope_base.specs.Lists.{Each}
use Rattle.report.specs.ViewText.{IsWritable, session_lines}
use Rattle.report.proofs.NumberedPieces.{all_numbered, each-at, more_numbered}
use Rattle.report.proofs.exchanges.push_sessions.Goals as goal

pub push_session-requires : goal.push_session-requires
push_session-requires c =
    rw c.as_slice.ensures (each-at (Each IsWritable) c.args.logs.now c.sessions.index c.index-logs-index.result c.sessions-test.true c.index-logs-index.is c.requires)

pub sessions-preserved : goal.sessions-preserved
sessions-preserved c =
    let after : c.sessions.index + 1 + 1 ≡ suc (c.sessions.index + 1) = omega arith in
    more_numbered session_lines c.sessions.text.items c.push_session.new.text.items _ c.args.logs.now c.sessions.index (c.sessions.index + 1) (c.sessions.index + 1 + 1) c.index-logs-index.result c.sessions-test.true c.index-logs-index.is
    after
    (rw c.as_slice.ensures at c.in_ok-push_session.ensures)
    c.sessions.invariant

pub returns : goal.returns
returns c = all_numbered session_lines c.sessions.text.items _ c.args.logs.now c.sessions.index (c.sessions.index + 1) c.sessions-test.false c.sessions.invariant
