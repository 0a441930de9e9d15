use Rattle.std.proofs.Common.{◌∙◌, sym, arith}
use Rattle.command_words.proofs.NumberLemmas.{number-beyond}
use Rattle.command_words.proofs.numbers.number_in.Goals as goal

pub returns-then-number-low : goal.returns-then-number-low
returns-then-number-low c =
    number-beyond c.args.low c.args.high c.args.text.now c.in_ok-number.number c.in_ok-number.ensures.0 (omega (arith, c.ranges.high.fits)) (sym c.as_bytes.ensures.value ∙ c.in_ok-number.ensures.1)
    (λ low high. omega (arith, low, c.if-number-low.true))

pub returns-then-high-number : goal.returns-then-high-number
returns-then-high-number c =
    number-beyond c.args.low c.args.high c.args.text.now c.in_ok-number.number c.in_ok-number.ensures.0 (omega (arith, c.ranges.high.fits)) (sym c.as_bytes.ensures.value ∙ c.in_ok-number.ensures.1)
    (λ low high. omega (arith, high, c.if-high-number.true))
