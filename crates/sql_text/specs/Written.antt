-- A line that is being written, token by token.
use Rattle.std.specs.Prelude.{ℕ, List, [], ◌∷◌, ◌++◌, Option, Some}
use Rattle.sql_text.specs.Canonical.{token_text, mark_of, is_tight, gap}
use Rattle.sql_text.specs.declared.marks.Mark.{Mark}
use Rattle.sql_text.specs.declared.marks.Mark.TheVariants.{Open}
use Rattle.sql_text.specs.declared.tokens.Token.{Token}

-- its text, and the last token, if that is a keyword or a symbol
pub record Written : Type 0 where
  pub text : List ℕ
  pub last : Option Mark

-- a line begins as one goes on after `(`: with no space
abbrev pub empty_line : Written
empty_line = record { text = []; last = Some Open }

-- the text of one more token, with the gap before it
abbrev pub put_text : Written → List ℕ → Option Mark → Written
put_text line text mark = record { text = line.text ++ (gap (is_tight line.last mark) ++ text); last = mark }

abbrev pub put : Written → Token → Written
put line token = put_text line (token_text token) (mark_of token)

unfoldable pub put_all : Written → List Token → Written
put_all line [] = line
put_all line (token ∷ rest) = put_all (put line token) rest
