use Rattle.std.proofs.Common.{arith, inl, inr}
use Rattle.command_words.proofs.DecimalLemmas.{decimal_plain, IsUtf8-decimal, plain_parsed}
use Rattle.command_words.proofs.numbers.plain_number.Goals as goal

pub returns-then-has_sign_or_leading_zero : goal.returns-then-has_sign_or_leading_zero
returns-then-has_sign_or_leading_zero c n fits e =
    let plain = rw (← e) at (decimal_plain n fits) in
    elim c.if-has_sign_or_leading_zero.ensures [
      | inl sign ↦ plain.0 sign
      | inr zero ↦ absurd (omega (arith, plain.1 zero.0, zero.1))
    ]

pub returns-in_default : goal.returns-in_default
returns-in_default c n fits e = c.in_default.ensures.cases.0 (rw e (IsUtf8-decimal n fits))

pub returns : goal.returns
returns c =
    let plain = c.if-has_sign_or_leading_zero.ensures in
    rw (c.ok.ensures.value, ← c.in-Ok.ensures.cases.0)
    (plain_parsed c.in-Ok.digits.now c.parse.result c.parse.ensures.value.0 (rw c.in-Ok.ensures.cases.0 plain.0) (rw c.in-Ok.ensures.cases.0 plain.1))
