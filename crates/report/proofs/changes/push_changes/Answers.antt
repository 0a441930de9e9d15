use Rattle.report.specs.ViewText.{change_lines}
use Rattle.report.proofs.Appends.{all_pieces, more_pieces}
use Rattle.report.proofs.changes.push_changes.Goals as goal

pub changes-preserved : goal.changes-preserved
changes-preserved c =
    more_pieces (change_lines c.args.w.now) c.changes.text.items c.push_change.new.text.items _ c.args.changes.now c.changes.change-index c.change-item.result c.changes-test.true c.change-item.is
    c.in_ok-push_change.ensures
    c.changes.invariant

pub returns : goal.returns
returns c = all_pieces (change_lines c.args.w.now) c.changes.text.items _ c.args.changes.now c.changes.change-index c.changes-test.false c.changes.invariant
