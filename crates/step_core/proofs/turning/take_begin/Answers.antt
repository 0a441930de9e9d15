use Rattle.step_core.proofs.Turned.{begin-takes}
use Rattle.step_core.proofs.turning.take_begin.Goals as goal

pub returns : goal.returns
returns c =
    begin-takes c.args.session c.args.conn.now.conn c.args.state.now c.begin.new.self c.began.new.self c.began.result c.in_ok-snapshot.snapshot c.in_ok-snapshot.ensures.snapshot
    c.began.ensures.request c.began.ensures.step c.began.ensures.fresh c.in_ok-snapshot.ensures.turn c.in_ok-snapshot.ensures.current c.in_ok-snapshot.ensures.first
