use Rattle.std.proofs.Common.{ℕ, get_or, refl}
use Rattle.std.proofs.lemmas.List.{get_or_default}
use Rattle.workload_file.specs.Shapes.{zero_of}
use Rattle.workload_file.proofs.ShapeLemmas.{mapped_more, mapped_end}
use Rattle.workload_file.proofs.shapes.zeros.Goals as goal

pub values-preserved : goal.values-preserved
values-preserved c =
    let value : ℕ = get_or c.args.values.now c.values._value-index 0 in
    mapped_more zero_of c.values.zeros c.push.new.self _ c.args.values.now c.values._value-index value 0 c.values-test.true
    (get_or_default c.args.values.now c.values._value-index 0 value c.values-test.true) refl c.in_ok-push.ensures.ok c.values.invariant

pub returns : goal.returns
returns c = mapped_end zero_of c.values.zeros _ c.args.values.now c.values._value-index c.values-test.false c.values.invariant
