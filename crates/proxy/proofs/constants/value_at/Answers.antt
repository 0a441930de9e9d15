use Rattle.std.proofs.Common.{◌≡◌, ◌∙◌, ℕ, ◌+◌, ◌%◌, ap, sym, Some, get_or, zero-add}
use Rattle.mope_base.specs.declared.numbers.ColNo.{ColNo}
use Rattle.proxy.specs.Tasks.{column_at}
use Rattle.proxy.proofs.ConstantLemmas.{value-found, value-none}
use Rattle.proxy.proofs.constants.value_at.Goals as goal

pub returns-then-index-values-clause-is : goal.returns-then-index-values-clause-is
unfolding column_at
returns-then-index-values-clause-is c =
    sym (value-found 0 c.args.values.now c.args.index c.if-index-values.true
    ∙ ap (λ (n : ℕ). Some (column_at n, get_or c.args.values.now c.args.index 0)) (zero-add c.args.index))

pub returns-else-index-values-clause-is : goal.returns-else-index-values-clause-is
returns-else-index-values-clause-is c = sym (value-none c.args.values.now c.args.index c.if-index-values.false)
