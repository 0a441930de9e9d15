-- The bytes of a line, and the words and symbols that have a meaning of their own.
use Rattle.std.specs.Prelude.{◌≡◌, ◌≤◌, ℕ, Bool, true, ◌||◌, ◌==◌, List, [], ◌∷◌, length, slice_index, Option, None, codes}
use Rattle.std.specs.Char.{is_ascii_alphabetic, is_ascii_alphanumeric, is_ascii_digit}
use Rattle.std.specs.Int.{is_in_range}
use Rattle.std.specs.List.{find, list_all, prefix_len, take_while}
use Rattle.std.specs.Str.{str_eq_ignore_ascii_case}
use Rattle.sql_text.specs.declared.marks.Mark.{Mark}
use Rattle.sql_text.specs.declared.marks.Mark.TheVariants.{And, Asc, Begin, Between, By, Commit, Count, Delete, Desc, End, From, Insert, Into, Limit, Max, Min, Mope, Order, Rebuild, Rollback, Select, Session, Table, Values, Where, Open, Close, Comma, Star, Semicolon, Equal, Less, LessEqual, Greater, GreaterEqual}

-- a space or a tab
abbrev pub is_blank : ℕ → Bool
is_blank b = b == 32 || b == 9

-- a line of blanks alone, or of nothing
abbrev pub is_blank_line : List ℕ → Bool
is_blank_line line = list_all is_blank line

-- a tab, or from the space to '~'
abbrev pub is_allowed : ℕ → Bool
is_allowed b = b == 9 || is_in_range 32 126 b

abbrev pub is_letter : ℕ → Bool
is_letter b = is_ascii_alphabetic b

abbrev pub is_digit : ℕ → Bool
is_digit b = is_ascii_digit b

-- a letter, a digit or '_'
abbrev pub is_word_byte : ℕ → Bool
is_word_byte b = is_ascii_alphanumeric b || b == 95

-- the letters, digits and underscores at the front
abbrev pub word_front : List ℕ → List ℕ
word_front bytes = take_while is_word_byte bytes

-- how a keyword or a symbol is written in a canonical line
abbrev pub mark_text : Mark → List ℕ
mark_text And = codes "AND"
mark_text Asc = codes "ASC"
mark_text Begin = codes "BEGIN"
mark_text Between = codes "BETWEEN"
mark_text By = codes "BY"
mark_text Commit = codes "COMMIT"
mark_text Count = codes "COUNT"
mark_text Delete = codes "DELETE"
mark_text Desc = codes "DESC"
mark_text End = codes "END"
mark_text From = codes "FROM"
mark_text Insert = codes "INSERT"
mark_text Into = codes "INTO"
mark_text Limit = codes "LIMIT"
mark_text Max = codes "MAX"
mark_text Min = codes "MIN"
mark_text Mope = codes "MOPE"
mark_text Order = codes "ORDER"
mark_text Rebuild = codes "REBUILD"
mark_text Rollback = codes "ROLLBACK"
mark_text Select = codes "SELECT"
mark_text Session = codes "SESSION"
mark_text Table = codes "TABLE"
mark_text Values = codes "VALUES"
mark_text Where = codes "WHERE"
mark_text Open = codes "("
mark_text Close = codes ")"
mark_text Comma = codes ","
mark_text Star = codes "*"
mark_text Semicolon = codes ";"
mark_text Equal = codes "="
mark_text Less = codes "<"
mark_text LessEqual = codes "<="
mark_text Greater = codes ">"
mark_text GreaterEqual = codes ">="

unfoldable pub keywords : List Mark
keywords = And ∷ Asc ∷ Begin ∷ Between ∷ By ∷ Commit ∷ Count ∷ Delete ∷ Desc ∷ End ∷ From ∷ Insert ∷ Into ∷ Limit ∷ Max ∷ Min ∷ Mope ∷ Order ∷ Rebuild ∷ Rollback ∷ Select ∷ Session ∷ Table ∷ Values ∷ Where ∷ []

-- the keyword that a word is, in any letter case
unfoldable pub keyword_of : List ℕ → Option Mark
keyword_of word = find (λ mark. str_eq_ignore_ascii_case word (mark_text mark)) keywords

-- a word of at most 32 bytes that is no keyword
pub record IsName (bytes : List ℕ) : Type 0 where
  pub letter : is_letter (slice_index bytes 0) ≡ true
  pub word : prefix_len is_word_byte bytes ≡ length bytes
  pub short : length bytes ≤ 32
  pub free : keyword_of bytes ≡ None
