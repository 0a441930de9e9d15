use Rattle.std.proofs.Common.{ℕ, List, get_or, ◌∷◌}
use Rattle.std.proofs.lemmas.List.{get_or_default}
use Rattle.workload.specs.Report.{after_spaces, value_text}
use Rattle.report.proofs.Appends.{all_pieces, more_pieces}
use Rattle.report.proofs.answers.push_after_spaces.Goals as goal

abbrev after_space : ℕ → List ℕ
after_space value = 32 ∷ value_text value

pub values-preserved : goal.values-preserved
unfolding after_spaces value_text
values-preserved c =
    let value : ℕ = get_or c.args.values.now c.values.value-index 0 in
    more_pieces after_space c.values.text.items c.push_number.new.text.items _ c.args.values.now c.values.value-index value c.values-test.true
    (get_or_default c.args.values.now c.values.value-index 0 value c.values-test.true)
    c.in_ok-push_number.ensures
    c.values.invariant

pub returns : goal.returns
unfolding after_spaces
returns c = all_pieces after_space c.values.text.items _ c.args.values.now c.values.value-index c.values-test.false c.values.invariant
