use Rattle.workload.specs.Report.{answer_lines}
use Rattle.report.proofs.Appends.{all_pieces, more_pieces}
use Rattle.report.proofs.answers.push_answers.Goals as goal

pub answers-preserved : goal.answers-preserved
answers-preserved c =
    more_pieces answer_lines c.answers.text.items c.push_answer.new.text.items _ c.args.answers.now c.answers.given-index c.given-item.result c.answers-test.true c.given-item.is
    c.in_ok-push_answer.ensures
    c.answers.invariant

pub returns : goal.returns
returns c = all_pieces answer_lines c.answers.text.items _ c.args.answers.now c.answers.given-index c.answers-test.false c.answers.invariant
