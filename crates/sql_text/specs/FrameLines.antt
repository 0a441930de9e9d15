-- The lines that frame the statements of a workload, and the tokens that spell them.
use Rattle.std.specs.Prelude.{◌≡◌, ℕ, List, [], ◌∷◌, ◌++◌, map}
use Rattle.sql_text.specs.Faults.{HasTokens}
use Rattle.sql_text.specs.Grammar.{joined, name_tokens, HasSome}
use Rattle.sql_text.specs.Lexing.{Placed, bare}
use Rattle.sql_text.specs.declared.frames.Frame.{Frame}
use Rattle.sql_text.specs.declared.frames.Frame.TheVariants.{Header, Table, Session, End}
use Rattle.sql_text.specs.declared.marks.Mark.TheVariants as mark
use Rattle.sql_text.specs.declared.tokens.Token.{Token}
use Rattle.sql_text.specs.declared.tokens.Token.TheVariants.{Fixed, Named, Number}

-- the tokens of a frame: no semicolon ends it
unfoldable pub frame_tokens : Frame → List Token
frame_tokens Header = Fixed mark.Mope ∷ Number 1 ∷ []
frame_tokens (Table table columns) = Fixed mark.Table ∷ Named table ∷ Fixed mark.Open ∷ (joined mark.Comma (map name_tokens columns) ++ Fixed mark.Close ∷ [])
frame_tokens Session = Fixed mark.Session ∷ []
frame_tokens End = Fixed mark.End ∷ []

-- a value that is a frame: a table has some columns, of which there may be too many
abbrev pub IsFrame : Frame → Type 0
IsFrame Header = Unit {0}
IsFrame (Table table columns) = HasSome columns
IsFrame Session = Unit {0}
IsFrame End = Unit {0}

-- each byte of the line may stand in it, and its tokens are the frame's
pub record IsFrameLine (line : List ℕ) (frame : Frame) : Type 0 where
  pub tokens : List Placed
  pub line_tokens : HasTokens line tokens
  pub right : IsFrame frame
  pub spelled : bare tokens ≡ frame_tokens frame

-- the line is no frame's
abbrev pub IsNoFrame : List ℕ → Type 0
IsNoFrame line = (frame : Frame) → IsFrameLine line frame → ⊥
