-- The bytes of the text of tokens may stand in a line.
use Rattle.std.proofs.Common.{◌≡◌, ℕ, Bool, true, false, not, List, [], ◌∷◌, ◌++◌, length, None, refl, ◌∙◌, arith}
use Rattle.std.proofs.lemmas.Bool.{and_parts, and_from, le-ltb, cond-false}
use Rattle.std.proofs.lemmas.Fmt.{digits_decimal}
use Rattle.std.proofs.lemmas.List.Folds.{list_all-append}
use Rattle.std.proofs.lemmas.Str.Parse.{numerals_by_value, tells_all_ascii_digits}
use Rattle.std.specs.Fmt.{decimal}
use Rattle.std.specs.List.{list_all, position_or_len, prefix_len}
use Rattle.std.specs.Str.{all_ascii_digits}
use Rattle.sql_text.specs.Canonical.{gap, is_tight, mark_of, text_after, text_of, token_text}
use Rattle.sql_text.specs.Lexing.{AreTokens, IsToken, first_bad_byte}
use Rattle.sql_text.specs.Words.{is_allowed, is_word_byte, mark_text}
use Rattle.sql_text.specs.declared.marks.Mark.{Mark}
use Rattle.sql_text.specs.declared.marks.Mark.TheVariants.{And}
use Rattle.sql_text.specs.declared.tokens.Token.{Token}
use Rattle.sql_text.specs.declared.tokens.Token.TheVariants.{Fixed, Named, Number}
use Rattle.sql_text.proofs.PrintedFront.{digit_word, full_cons, word_allowed}

both : (xs ys : List ℕ) → list_all is_allowed xs ≡ true → list_all is_allowed ys ≡ true → list_all is_allowed (xs ++ ys) ≡ true
both xs ys h k = list_all-append is_allowed xs ys ∙ and_from _ _ h k

mark_allowed : (m : Mark) → list_all is_allowed (mark_text m) ≡ true
mark_allowed And = refl
mark_allowed _ = refl

words_allowed : (text : List ℕ) → prefix_len is_word_byte text ≡ length text → list_all is_allowed text ≡ true
words_allowed [] full = refl
words_allowed (b ∷ text) full =
    let parts = full_cons is_word_byte b text full in
    and_from _ _ (word_allowed b parts.0) (words_allowed text parts.1)

digits_allowed : (text : List ℕ) → all_ascii_digits text ≡ true → list_all is_allowed text ≡ true
digits_allowed [] digits = refl
digits_allowed (b ∷ text) digits =
    let parts = and_parts _ _ digits in
    and_from _ _ (word_allowed b (digit_word b parts.0)) (digits_allowed text parts.1)

token_allowed : (token : Token) → IsToken token → list_all is_allowed (token_text token) ≡ true
token_allowed (Fixed mark) is = mark_allowed mark
token_allowed (Named name) is = words_allowed name.bytes is.word
token_allowed (Number number) is = digits_allowed (decimal number) (digits_decimal (numerals_by_value _ tells_all_ascii_digits) number is)

gap_allowed : (tight : Bool) → list_all is_allowed (gap tight) ≡ true
unfolding gap
gap_allowed true = refl
gap_allowed false = refl

after_allowed : (before : Token) (tokens : List Token) → AreTokens tokens → list_all is_allowed (text_after before tokens) ≡ true
unfolding text_after
after_allowed before [] are = refl
after_allowed before (token ∷ rest) are =
    let tight : Bool = is_tight (mark_of before) (mark_of token) in
    both (gap tight) (token_text token ++ text_after token rest) (gap_allowed tight) (both (token_text token) (text_after token rest) (token_allowed token are.0) (after_allowed token rest are.1))

pub text_allowed : (tokens : List Token) → AreTokens tokens → list_all is_allowed (text_of tokens) ≡ true
unfolding text_of
text_allowed [] are = refl
text_allowed (token ∷ rest) are = both (token_text token) (text_after token rest) (token_allowed token are.0) (after_allowed token rest are.1)

none_bad : (line : List ℕ) → list_all is_allowed line ≡ true → position_or_len (λ b. not (is_allowed b)) line ≡ length line
none_bad [] h = refl
none_bad (b ∷ line) h =
    let parts = and_parts (is_allowed b) _ h in
    rw parts.0 (rw (none_bad line parts.1) (omega arith))

pub no_bad_byte : (line : List ℕ) → list_all is_allowed line ≡ true → first_bad_byte line ≡ None
no_bad_byte line h =
    let all : position_or_len (λ b. not (is_allowed b)) line ≡ length line = none_bad line h in
    cond-false _ _ _ (le-ltb (position_or_len (λ b. not (is_allowed b)) line) (length line) (omega (arith, all)))

pub text_has_no_bad_byte : (tokens : List Token) → AreTokens tokens → first_bad_byte (text_of tokens) ≡ None
text_has_no_bad_byte tokens are = no_bad_byte (text_of tokens) (text_allowed tokens are)
