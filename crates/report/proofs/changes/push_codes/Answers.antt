use Rattle.std.proofs.Common.{ℕ, get_or}
use Rattle.std.proofs.lemmas.List.{get_or_default}
use Rattle.report.specs.ViewText.{code_line}
use Rattle.report.proofs.Appends.{all_pieces, more_pieces}
use Rattle.report.proofs.changes.push_codes.Goals as goal

pub codes-preserved : goal.codes-preserved
codes-preserved c =
    let code : ℕ = get_or c.args.codes.now c.codes.code-index 0 in
    more_pieces (code_line c.args.before.now) c.codes.text.items c.push_code_line.new.text.items _ c.args.codes.now c.codes.code-index code c.codes-test.true
    (get_or_default c.args.codes.now c.codes.code-index 0 code c.codes-test.true)
    c.in_ok-push_code_line.ensures
    c.codes.invariant

pub returns : goal.returns
returns c = all_pieces (code_line c.args.before.now) c.codes.text.items _ c.args.codes.now c.codes.code-index c.codes-test.false c.codes.invariant
