use Rattle.std.proofs.Common.{◌≡◌, ◌*◌, ◌+◌, ◌^◌, ap, ◌∙◌, sym, get_or, arith}
use Rattle.scapegoat.proofs.Climbing.{Passes-rule, Passes-threes}
use Rattle.scapegoat.proofs.rules.pick.Goals as goal

pub returns-then-threes-from-clause-rule : goal.returns-then-threes-from-clause-rule
returns-then-threes-from-clause-rule c =
    let passes = c.ancestors.invariant.1 in
    let here : c.from.result ≡ get_or c.args.sizes.now c.ancestors.above 0 = c.from.ensures ∙ ap (λ j. get_or c.args.sizes.now j 0) (sym c.ancestors.invariant.0) in
    let product = ap (λ n. n * 2 ^ (c.ancestors.above + 1)) here in
    let twice = ap (λ n. c.from.result * n) passes.twos_are in
    Passes-rule c.args.sizes.now c.ancestors.above c.ancestors.threes c.ancestors.twos passes (omega arith) (omega (arith, passes.threes_are, product, twice))

pub overflow_mul-threes : goal.overflow_mul-threes
overflow_mul-threes c =
    let passes = c.ancestors.invariant.1 in
    omega (arith, Passes-threes c.args.sizes.now c.ancestors.above c.ancestors.threes c.ancestors.twos (omega (arith, c.requires.few)) passes)
