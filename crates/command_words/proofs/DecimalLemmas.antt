-- What is read of a text that begins with no sign and no leading zero.
use Rattle.std.proofs.Common.{◌≡◌, ◌≢◌, ◌≤◌, ◌<◌, ◌^◌, ℕ, List, length, get_or, arith, sym, inl, inr, MatchOption, Result, Ok, Err, lit<, lit≤, eq-zero-or-pos}
use Rattle.std.specs.Char.{IsAsciiDigit}
use Rattle.std.specs.Fmt.{decimal}
use Rattle.std.proofs.lemmas.Str.Parse.{tells_by_index, numerals_by_value, parse_plain, IsNumeralModel}
use Rattle.std.proofs.lemmas.Fmt.{digits_decimal, decimal_nonempty, decimal_digit, first_decimal, decimal-digits_value, parse-decimal, IsAscii-decimal}
use Rattle.std.proofs.lemmas.Str.{IsUtf8-from_ascii}
use Rattle.std.specs.Str.{IsUtf8}
use Rattle.std.specs.Str.Parse.{ParsesUnsigned, digits_value}
use Rattle.std.specs.Result.{result_ok}

-- each byte is a digit
abbrev pub AreDigits : List ℕ → Type 0
AreDigits ds = (k : ℕ) → k < length ds → IsAsciiDigit (get_or ds k 0)

pub decimal_digits : (n : ℕ) → n < 2 ^ 64 → AreDigits (decimal n)
decimal_digits n fits = digits_decimal (numerals_by_value _ tells_by_index) n fits

own_words : IsNumeralModel AreDigits (digits_value 10)
own_words = numerals_by_value _ tells_by_index

-- a decimal text begins with no sign, and with a zero only where it is `0`
pub decimal_plain : (n : ℕ) → n < 2 ^ 64 → (get_or (decimal n) 0 0 ≢ 43) × (get_or (decimal n) 0 0 ≡ 48 → length (decimal n) ≤ 1)
decimal_plain n fits = (
  λ e. let digit = decimal_digits n fits 0 (decimal_nonempty n fits) in omega (arith, digit.0),
  λ e. elim (eq-zero-or-pos n) [
    | inl zero ↦ rw (zero, decimal_digit 0 (lit< tt)) (lit≤ tt)
    | inr some ↦ absurd (omega (arith, first_decimal n some fits))
  ],
)

pub IsUtf8-decimal : (n : ℕ) → n < 2 ^ 64 → IsUtf8 (decimal n)
IsUtf8-decimal n fits = IsUtf8-from_ascii (decimal n) (IsAscii-decimal n fits)

-- what `parse` reads of a text that begins plainly
pub plain_parsed : {E : Type 0} (text : List ℕ) (r : Result ℕ E) → ParsesUnsigned 64 10 text r → get_or text 0 0 ≢ 43 → (get_or text 0 0 ≡ 48 → length text ≤ 1) → MatchOption (result_ok r) ((n : ℕ) → n < 2 ^ 64 → text ≢ decimal n) (λ n. (n < 2 ^ 64) × (text ≡ decimal n))
plain_parsed {E} text (Ok v) h no_sign no_zero =
    let parts = parse_plain own_words {E = E} 64 text (Ok v) h no_sign in
    (rw parts.1 parts.0.2, rw parts.1 (sym (decimal-digits_value own_words text parts.0.0 parts.0.1 (λ e. let one : length text ≤ 1 = no_zero e in let some : 0 < length text = parts.0.1 in omega arith) parts.0.2)))
plain_parsed text (Err d) h no_sign no_zero = λ n fits e. let ok = parse-decimal 64 n text (Err d) fits fits e h in cc
