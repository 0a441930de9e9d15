-- The word at the front of some bytes, as the scanner meets it.
use Rattle.std.proofs.Common.{◌≡◌, ℕ, ◌<◌, ◌+◌, ◌&&◌, List, length, get_or, take, drop, drop-cons, add-one, refl, true}
use Rattle.std.proofs.lemmas.List.Folds.{length-prefix_len}
use Rattle.std.proofs.lemmas.Fmt.{IsAscii-from_digits}
use Rattle.std.proofs.lemmas.Str.{IsUtf8-from_ascii}
use Rattle.std.proofs.lemmas.Str.Parse.{IsNumeralModel, numerals_by_value, tells_all_ascii_digits}
use Rattle.std.specs.Char.{is_ascii_digit}
use Rattle.std.specs.List.{prefix_len}
use Rattle.std.specs.Str.{all_ascii_digits, IsUtf8}
use Rattle.std.specs.Str.Parse.{digits_value}
use Rattle.sql_text.specs.Words.{is_word_byte}

pub front_size : (bytes : List ℕ) → length (take (prefix_len is_word_byte bytes) bytes) ≡ prefix_len is_word_byte bytes
front_size bytes = length-prefix_len is_word_byte bytes

pub digits_step : (word : List ℕ) (i : ℕ) → i < length word → all_ascii_digits (drop i word) ≡ is_ascii_digit (get_or word i 0) && all_ascii_digits (drop (i + 1) word)
digits_step word i h = rw (add-one, drop-cons word i 0) refl

-- digits are text, and std's digits
pub digits_model : IsNumeralModel (λ ds. all_ascii_digits ds ≡ true) (digits_value 10)
digits_model = numerals_by_value (λ ds. all_ascii_digits ds ≡ true) tells_all_ascii_digits

pub digits_utf8 : (word : List ℕ) → all_ascii_digits word ≡ true → IsUtf8 word
digits_utf8 word h = IsUtf8-from_ascii word (IsAscii-from_digits word (digits_model.to word h))
