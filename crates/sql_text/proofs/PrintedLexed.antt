-- What the lexer gives are tokens that some line has.
use Rattle.std.proofs.Common.{◌≡◌, ℕ, zero, suc, ◌+◌, ◌-◌, ◌^◌, Bool, true, false, ◌==◌, nat_lt, List, [], ◌∷◌, length, Option, Some, None, Result, Ok, Err, if◌then◌else◌, refl, sym, ◌∙◌, subst, arith, slice_index}
use Rattle.std.proofs.lemmas.Bool.{ltb-true, ltb-false}
use Rattle.std.proofs.lemmas.List.Sums.{take_while-cons}
use Rattle.std.specs.List.{prefix_len, take_while}
use Rattle.std.specs.Str.Parse.{digits_value}
use Rattle.sql_text.specs.Lexing.{AreTokens, Fault, Found, IsToken, Placed, bare, blank_or_token, first_token, found, is_numeral, number_at, number_of, symbol_at, token_at, tokens_from, tokens_of, with_equal, with_first, word_at, word_token}
use Rattle.sql_text.specs.Words.{IsName, is_blank, is_digit, is_letter, is_word_byte, keyword_of, word_front}
use Rattle.sql_text.specs.declared.marks.Mark.{Mark}
use Rattle.sql_text.specs.declared.marks.Mark.TheVariants.{Open, Close, Comma, Star, Semicolon, Equal, Less, LessEqual, Greater, GreaterEqual}
use Rattle.sql_text.specs.declared.parsing.Reason.{Reason}
use Rattle.sql_text.specs.declared.parsing.Reason.TheVariants.{BadToken, TooLarge}
use Rattle.sql_text.specs.declared.tokens.Token.{Token}
use Rattle.sql_text.specs.declared.tokens.Token.TheVariants.{Fixed, Number}
use Rattle.sql_text.proofs.PrintedFront.{letter_word}

-- the token that was found, if one was, is one that some line has
record Sound (r : Result Found Reason) : Type 0 where
  holds : (f : Found) → r ≡ Ok f → IsToken f.token

refused : (reason : Reason) → Sound (Err reason)
refused reason = record { holds = λ f e. cc }

given : (token : Token) (size : ℕ) → IsToken token → Sound (found token size)
given token size is = record { holds = λ f e. (let same : token ≡ f.token = cc in subst IsToken same is) }

chosen : (test : Bool) (r s : Result Found Reason) → (test ≡ true → Sound r) → (test ≡ false → Sound s) → Sound (if test then r else s)
chosen true r s holds fails = holds refl
chosen false r s holds fails = fails refl

equal_sound : (test : Bool) (long short : Mark) → Sound (with_equal test long short)
equal_sound true long short = given (Fixed long) 2 tt
equal_sound false long short = given (Fixed short) 1 tt

mark_sound : (test : Bool) (m : Mark) (s : Result Found Reason) → Sound s → Sound (if test then found (Fixed m) 1 else s)
mark_sound test m s other = chosen test (found (Fixed m) 1) s (λ _. given (Fixed m) 1 tt) (λ _. other)

symbol_sound : (b next : ℕ) → Sound (symbol_at b next)
unfolding symbol_at
symbol_sound b next =
    mark_sound (b == 40) Open _ (mark_sound (b == 41) Close _ (mark_sound (b == 44) Comma _ (mark_sound (b == 42) Star _ (mark_sound (b == 59) Semicolon _ (mark_sound (b == 61) Equal _
    (chosen (b == 60) (with_equal (next == 61) LessEqual Less) _ (λ _. equal_sound (next == 61) LessEqual Less)
    (λ _. chosen (b == 62) (with_equal (next == 61) GreaterEqual Greater) (Err BadToken) (λ _. equal_sound (next == 61) GreaterEqual Greater) (λ _. refused BadToken))))))))

number_sound : (word : List ℕ) → Sound (number_at word)
unfolding number_at
number_sound word =
    chosen (is_numeral word) (number_of (digits_value 10 word) (length word)) (Err BadToken)
    (λ _. chosen (nat_lt (digits_value 10 word) (2 ^ 64)) (found (Number (digits_value 10 word)) (length word)) (Err TooLarge) (λ small. given (Number (digits_value 10 word)) (length word) (ltb-true (digits_value 10 word) (2 ^ 64) small)) (λ _. refused TooLarge))
    (λ _. refused BadToken)

full_step : (p : ℕ → Bool) (b : ℕ) (bytes : List ℕ) (passes : Bool) → p b ≡ passes → prefix_len p (take_while p bytes) ≡ length (take_while p bytes) → prefix_len p (take_while p (b ∷ bytes)) ≡ length (take_while p (b ∷ bytes))
full_step p b bytes true e full =
    let is : take_while p (b ∷ bytes) ≡ b ∷ take_while p bytes = take_while-cons p b bytes ∙ rw e refl in
    subst (λ (word : List ℕ). prefix_len p word ≡ length word) (sym is) (rw e (omega (arith, full)))
full_step p b bytes false e full =
    let is : take_while p (b ∷ bytes) ≡ [] = take_while-cons p b bytes ∙ rw e refl in
    subst (λ (word : List ℕ). prefix_len p word ≡ length word) (sym is) refl

full_front : (p : ℕ → Bool) (bytes : List ℕ) → prefix_len p (take_while p bytes) ≡ length (take_while p bytes)
full_front p [] = refl
full_front p (b ∷ bytes) = full_step p b bytes (p b) refl (full_front p bytes)

letter_front : (bytes : List ℕ) → is_letter (slice_index bytes 0) ≡ true → is_letter (slice_index (word_front bytes) 0) ≡ true
letter_front [] letter = cc
letter_front (b ∷ bytes) letter =
    let is : word_front (b ∷ bytes) ≡ b ∷ word_front bytes = take_while-cons is_word_byte b bytes ∙ rw (letter_word b letter) refl in
    subst (λ (word : List ℕ). is_letter (slice_index word 0) ≡ true) (sym is) letter

word_token_is : (keyword : Option Mark) (word : List ℕ) → (keyword ≡ None → IsName word) → IsToken (word_token keyword word)
word_token_is (Some mark) word name = tt
word_token_is None word name = name refl

word_sound : (bytes : List ℕ) → is_letter (slice_index bytes 0) ≡ true → Sound (word_at (word_front bytes))
unfolding word_at
word_sound bytes letter =
    let word : List ℕ = word_front bytes in
    let token : Token = word_token (keyword_of word) word in
    chosen (nat_lt 32 (length word)) (Err BadToken) (found token (length word)) (λ _. refused BadToken)
    (λ short. given token (length word) (word_token_is (keyword_of word) word (λ free. record {
      letter = letter_front bytes letter;
      word = full_front is_word_byte bytes;
      short = ltb-false 32 (length word) short;
      free = free;
    })))

token_sound : (bytes : List ℕ) → Sound (token_at bytes)
unfolding token_at
token_sound bytes =
    let rest : Result Found Reason = if is_digit (slice_index bytes 0) then number_at (word_front bytes) else symbol_at (slice_index bytes 0) (slice_index bytes 1) in
    chosen (is_letter (slice_index bytes 0)) (word_at (word_front bytes)) rest (word_sound bytes)
    (λ _. chosen (is_digit (slice_index bytes 0)) (number_at (word_front bytes)) (symbol_at (slice_index bytes 0) (slice_index bytes 1)) (λ _. number_sound (word_front bytes)) (λ _. symbol_sound (slice_index bytes 0) (slice_index bytes 1)))

-- the tokens that were given, if some were, are tokens that some line has
record AllSound (r : Result (List Placed) Fault) : Type 0 where
  hold : (placed : List Placed) → r ≡ Ok placed → AreTokens (bare placed)

tokens_given : (placed : List Placed) → AreTokens (bare placed) → AllSound (Ok placed)
tokens_given placed are = record { hold = λ others e. (let same : placed ≡ others = cc in subst (λ (p : List Placed). AreTokens (bare p)) same are) }

with_first_sound : (first : Placed) (r : Result (List Placed) Fault) → IsToken first.token → AllSound r → AllSound (with_first first r)
unfolding with_first
with_first_sound first (Ok others) is sound = tokens_given (first ∷ others) (is, sound.hold others refl)
with_first_sound first (Err fault) is sound = record { hold = λ others e. cc }

first_sound : (at : ℕ) (r : Result Found Reason) (others : ℕ → Result (List Placed) Fault) → Sound r → ((inside : ℕ) → AllSound (others inside)) → AllSound (first_token at r others)
unfolding first_token
first_sound at (Ok f) others one each = with_first_sound (record { at = at; token = f.token }) (others (f.size - 1)) (one.holds f refl) (each (f.size - 1))
first_sound at (Err reason) others one each = record { hold = λ placed e. cc }

blank_sound : (blank : Bool) (at : ℕ) (r : Result Found Reason) (others : ℕ → Result (List Placed) Fault) → Sound r → ((inside : ℕ) → AllSound (others inside)) → AllSound (blank_or_token blank at r others)
unfolding blank_or_token
blank_sound true at r others one each = each 0
blank_sound false at r others one each = first_sound at r others one each

line_sound : (at inside : ℕ) (line : List ℕ) → AllSound (tokens_from at inside line)
unfolding tokens_from
line_sound at inside [] = tokens_given [] tt
line_sound at (suc inside) (b ∷ rest) = line_sound (at + 1) inside rest
line_sound at zero (b ∷ rest) = blank_sound (is_blank b) at (token_at (b ∷ rest)) (λ inside. tokens_from (at + 1) inside rest) (token_sound (b ∷ rest)) (λ inside. line_sound (at + 1) inside rest)

pub lexed_are_tokens : (line : List ℕ) (placed : List Placed) → tokens_of line ≡ Ok placed → AreTokens (bare placed)
lexed_are_tokens line placed e = (line_sound 0 0 line).hold placed e
