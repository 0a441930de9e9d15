use Rattle.std.proofs.Common.{◌≡◌, ◌+◌, suc, arith}
use Rattle.report.specs.ViewText.{turn_lines}
use Rattle.report.proofs.NumberedPieces.{all_numbered, more_numbered}
use Rattle.report.proofs.turns.push_turns.Goals as goal

pub turns-preserved : goal.turns-preserved
turns-preserved c =
    let after : c.turns.index + 1 + 1 ≡ suc (c.turns.index + 1) = omega arith in
    more_numbered (turn_lines c.args.w.now) c.turns.text.items c.push_turn.new.text.items _ c.args.turns.now c.turns.index (c.turns.index + 1) (c.turns.index + 1 + 1) c.index-turns-index.result c.turns-test.true c.index-turns-index.is
    after
    c.in_ok-push_turn.ensures
    c.turns.invariant

pub returns : goal.returns
returns c = all_numbered (turn_lines c.args.w.now) c.turns.text.items _ c.args.turns.now c.turns.index (c.turns.index + 1) c.turns-test.false c.turns.invariant
