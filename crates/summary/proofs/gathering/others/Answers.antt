use Rattle.std.proofs.Common.{ℕ, ◌++◌, List, ap, arith}
use Rattle.summary.specs.Candidates.{others}
use Rattle.summary.proofs.Steps.{one_step, all_done, others-split, others-none}
use Rattle.summary.proofs.gathering.others.Goals as goal

pub codes-init : goal.codes-init
codes-init c = ap (λ (xs : List ℕ). xs ++ others c.args.excluded.now c.args.codes.now) c.new-rest.ensures.items

pub codes-preserved : goal.codes-preserved
codes-preserved c =
    one_step (others c.args.excluded.now) c.args.codes.now c.codes.at 0 c.codes.rest.items c.push_other.new.rest.items (omega (arith, c.codes-test.true)) (others-split c.args.excluded.now) c.in_ok-push_other.ensures c.codes.invariant

pub returns : goal.returns
returns c = all_done (others c.args.excluded.now) c.args.codes.now c.codes.at c.codes.rest.items c.codes-test.false (others-none c.args.excluded.now) c.codes.invariant
