-- The tokens of a line. Blanks separate tokens and mean nothing else.
use Rattle.std.specs.Prelude.{◌<◌, ℕ, zero, suc, ◌+◌, ◌-◌, ◌^◌, Bool, true, false, not, ◌&&◌, ◌==◌, nat_lt, List, [], ◌∷◌, length, map, slice_index, Option, Some, None, Result, Ok, Err, if◌then◌else◌}
use Rattle.std.specs.List.{AllByRecursion, position}
use Rattle.std.specs.Str.{all_ascii_digits}
use Rattle.std.specs.Str.Parse.{digits_value}
use Rattle.sql_text.specs.Words.{is_blank, is_allowed, is_letter, is_digit, word_front, keyword_of, IsName}
use Rattle.sql_text.specs.declared.marks.Mark.{Mark}
use Rattle.sql_text.specs.declared.marks.Mark.TheVariants.{Open, Close, Comma, Star, Semicolon, Equal, Less, LessEqual, Greater, GreaterEqual}
use Rattle.sql_text.specs.declared.parsing.Reason.{Reason}
use Rattle.sql_text.specs.declared.parsing.Reason.TheVariants.{BadToken, TooLarge}
use Rattle.sql_text.specs.declared.tokens.Token.{Token}
use Rattle.sql_text.specs.declared.tokens.Token.TheVariants.{Fixed, Named, Number}

-- a token at the front of some bytes, and how many of them it takes
pub record Found : Type 0 where
  pub token : Token
  pub size : ℕ

-- a token of a line, and the place of its first byte
pub record Placed : Type 0 where
  pub at : ℕ
  pub token : Token

-- what is wrong with a token, and the place of its first byte
pub record Fault : Type 0 where
  pub at : ℕ
  pub reason : Reason

abbrev pub found : Token → ℕ → Result Found Reason
found token size = Ok (record { token = token; size = size })

-- a keyword, or else a name
abbrev pub word_token : Option Mark → List ℕ → Token
word_token (Some keyword) word = Fixed keyword
word_token None word = Named (record { bytes = word })

unfoldable pub word_at : List ℕ → Result Found Reason
word_at word = if nat_lt 32 (length word) then Err BadToken else found (word_token (keyword_of word) word) (length word)

-- a number that fits 64 bits
abbrev pub number_of : ℕ → ℕ → Result Found Reason
number_of number size = if nat_lt number (2 ^ 64) then found (Number number) size else Err TooLarge

-- digits alone, and a zero in front only where it is all
abbrev pub is_numeral : List ℕ → Bool
is_numeral word = all_ascii_digits word && not (slice_index word 0 == 48 && nat_lt 1 (length word))

unfoldable pub number_at : List ℕ → Result Found Reason
number_at word = if is_numeral word then number_of (digits_value 10 word) (length word) else Err BadToken

-- a symbol, or the one with '=' behind it
abbrev pub with_equal : Bool → Mark → Mark → Result Found Reason
with_equal true long short = found (Fixed long) 2
with_equal false long short = found (Fixed short) 1

-- the longest symbol at the front: its byte, and the byte behind it
unfoldable pub symbol_at : ℕ → ℕ → Result Found Reason
symbol_at b next = if b == 40 then found (Fixed Open) 1 else if b == 41 then found (Fixed Close) 1 else if b == 44 then found (Fixed Comma) 1 else if b == 42 then found (Fixed Star) 1 else if b == 59 then found (Fixed Semicolon) 1 else if b == 61 then found (Fixed Equal) 1 else if b == 60 then with_equal (next == 61) LessEqual Less else if b == 62 then with_equal (next == 61) GreaterEqual Greater else Err BadToken

-- the token at the front, or why none starts there
unfoldable pub token_at : List ℕ → Result Found Reason
token_at bytes = if is_letter (slice_index bytes 0) then word_at (word_front bytes) else if is_digit (slice_index bytes 0) then number_at (word_front bytes) else symbol_at (slice_index bytes 0) (slice_index bytes 1)

unfoldable pub with_first : Placed → Result (List Placed) Fault → Result (List Placed) Fault
with_first first (Ok others) = Ok (first ∷ others)
with_first first (Err fault) = Err fault

-- a token and those after it; others gives them by the number of bytes after this one that are still the token's
unfoldable pub first_token : ℕ → Result Found Reason → (ℕ → Result (List Placed) Fault) → Result (List Placed) Fault
first_token at (Err reason) others = Err (record { at = at; reason = reason })
first_token at (Ok found) others = with_first (record { at = at; token = found.token }) (others (found.size - 1))

unfoldable pub blank_or_token : Bool → ℕ → Result Found Reason → (ℕ → Result (List Placed) Fault) → Result (List Placed) Fault
blank_or_token true at first others = others 0
blank_or_token false at first others = first_token at first others

-- the tokens of the bytes from a place on, of which so many are still those of the token before; or the first fault from the left
unfoldable pub tokens_from : ℕ → ℕ → List ℕ → Result (List Placed) Fault
tokens_from at inside [] = Ok []
tokens_from at (suc inside) (b ∷ rest) = tokens_from (at + 1) inside rest
tokens_from at zero (b ∷ rest) = blank_or_token (is_blank b) at (token_at (b ∷ rest)) (λ inside. tokens_from (at + 1) inside rest)

-- the tokens of a line, or its first token fault from the left
abbrev pub tokens_of : List ℕ → Result (List Placed) Fault
tokens_of line = tokens_from 0 0 line

-- the place of the first byte that may not stand in a line
abbrev pub first_bad_byte : List ℕ → Option ℕ
first_bad_byte line = position (λ b. not (is_allowed b)) line

-- the tokens without their places
abbrev pub bare : List Placed → List Token
bare placed = map (λ p. p.token) placed

-- some line has the token
abbrev pub IsToken : Token → Type 0
IsToken (Fixed mark) = Unit {0}
IsToken (Named name) = IsName name.bytes
IsToken (Number number) = number < 2 ^ 64

abbrev pub AreTokens : List Token → Type 0
AreTokens tokens = AllByRecursion IsToken tokens
