use Rattle.std.proofs.Common.{◌≡◌, ℕ, ◌<◌, ◌≤◌, ◌^◌, List, length, true, Result, Ok, Err, arith, subst}
use Rattle.std.proofs.lemmas.Str.Parse.{parse_digits}
use Rattle.std.specs.Option.{MatchOption}
use Rattle.std.specs.Result.{OkIff, result_ok}
use Rattle.std.specs.Str.{all_ascii_digits}
use Rattle.std.specs.Str.Parse.{digits_value, ParsesUnsigned}
use Rattle.sql_text.proofs.FrontWords.{digits_model, digits_utf8}
use Rattle.sql_text.proofs.scanning.number_of.Goals as goal

read : {E : Type 0} (r : Result ℕ E) (v len : ℕ) → 0 < len → OkIff r ((0 < len) × (v < 2 ^ 64)) v → MatchOption (result_ok r) (2 ^ 64 ≤ v) (λ n. (n ≡ v) × (n < 2 ^ 64))
read (Ok x) v len some h =
    let fits : v < 2 ^ 64 = h.0.1 in
    let same : x ≡ v = h.1 in
    (same, omega arith)
read (Err e) v len some h =
    let too_large : v < 2 ^ 64 → ⊥ = λ fits. h (some, fits) in
    omega (arith, too_large)

read_word : {E : Type 0} (bs word : List ℕ) (r : Result ℕ E) → bs ≡ word → ParsesUnsigned 64 10 bs r → all_ascii_digits word ≡ true → 0 < length word → MatchOption (result_ok r) (2 ^ 64 ≤ digits_value 10 word) (λ n. (n ≡ digits_value 10 word) × (n < 2 ^ 64))
read_word bs word r e parsed digits some = read r (digits_value 10 word) (length word) some (parse_digits digits_model 64 word r (subst (λ t. ParsesUnsigned 64 10 t r) e parsed) digits)

pub returns-in_default : goal.returns-in_default
returns-in_default c = absurd (c.in_default.ensures.cases.0 (digits_utf8 c.args.word.now c.requires.digits))

pub returns : goal.returns
returns c = rw c.ok.ensures.value (read_word c.in-Ok.digits.now c.args.word.now c.parse.result c.in-Ok.ensures.cases.0 c.parse.ensures.value.0 c.requires.digits c.requires.some)
