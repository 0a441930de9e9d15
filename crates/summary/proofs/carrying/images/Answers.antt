use Rattle.std.proofs.Common.{ℕ, ◌++◌, List, ap, arith}
use Rattle.code_changes.specs.Changes.{images}
use Rattle.summary.proofs.Steps.{one_step, all_done, images-split, images-none}
use Rattle.summary.proofs.carrying.images.Goals as goal

pub codes-init : goal.codes-init
codes-init c = ap (λ (xs : List ℕ). xs ++ images c.args.change.now c.args.codes.now) c.new-after.ensures.items

pub codes-preserved : goal.codes-preserved
codes-preserved c =
    one_step (images c.args.change.now) c.args.codes.now c.codes.at 0 c.codes.after.items c.push_image.new.after.items (omega (arith, c.codes-test.true)) (images-split c.args.change.now) c.in_ok-push_image.ensures c.codes.invariant

pub returns : goal.returns
returns c = all_done (images c.args.change.now) c.args.codes.now c.codes.at c.codes.after.items c.codes-test.false (images-none c.args.change.now) c.codes.invariant
