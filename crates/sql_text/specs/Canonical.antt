-- The canonical line of a statement.
use Rattle.std.specs.Prelude.{ℕ, Bool, true, false, ◌&&◌, ◌||◌, List, [], ◌∷◌, ◌++◌, Option, Some, None}
use Rattle.std.specs.Fmt.{decimal}
use Rattle.sql_text.specs.Grammar.{statement_tokens}
use Rattle.sql_text.specs.Words.{mark_text}
use Rattle.sql_text.specs.declared.marks.Mark.{Mark}
use Rattle.sql_text.specs.declared.marks.Mark.TheVariants as mark
use Rattle.sql_text.specs.declared.statements.Stmt.{Stmt}
use Rattle.sql_text.specs.declared.tokens.Token.{Token}
use Rattle.sql_text.specs.declared.tokens.Token.TheVariants.{Fixed, Named, Number}

-- keywords in upper case, and numbers in decimal without a zero in front
abbrev pub token_text : Token → List ℕ
token_text (Fixed mark) = mark_text mark
token_text (Named name) = name.bytes
token_text (Number number) = decimal number

-- the keyword or symbol that a token is
abbrev pub mark_of : Token → Option Mark
mark_of (Fixed mark) = Some mark
mark_of (Named name) = None
mark_of (Number number) = None

abbrev pub is_open : Option Mark → Bool
is_open (Some mark.Open) = true
is_open _ = false

-- COUNT, MIN and MAX, the names of functions
abbrev pub is_function : Option Mark → Bool
is_function (Some mark.Count) = true
is_function (Some mark.Min) = true
is_function (Some mark.Max) = true
is_function _ = false

-- `)` or `,`
abbrev pub is_close_or_comma : Option Mark → Bool
is_close_or_comma (Some mark.Close) = true
is_close_or_comma (Some mark.Comma) = true
is_close_or_comma _ = false

-- no space stands after `(`, nor before `)`, `,` and the `(` of a function
abbrev pub is_tight : Option Mark → Option Mark → Bool
is_tight before after = is_open before || is_close_or_comma after || (is_function before && is_open after)

unfoldable pub gap : Bool → List ℕ
gap true = []
gap false = 32 ∷ []

-- the texts of tokens after another, each with the gap before it
unfoldable pub text_after : Token → List Token → List ℕ
text_after before [] = []
text_after before (token ∷ rest) = gap (is_tight (mark_of before) (mark_of token)) ++ (token_text token ++ text_after token rest)

unfoldable pub text_of : List Token → List ℕ
text_of [] = []
text_of (token ∷ rest) = token_text token ++ text_after token rest

-- with no ASC and no semicolon
unfoldable pub canonical : Stmt → List ℕ
canonical s = text_of (statement_tokens false s)
