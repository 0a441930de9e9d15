-- The lines of a file, and what each says wherever it stands.
use Rattle.std.specs.Prelude.{◌≡◌, ℕ, ◌-◌, Bool, true, false, not, ◌==◌, List, [], ◌∷◌, length, take, slice_index}
use Rattle.sql_text.specs.Faults.{Gives, IsFault}
use Rattle.sql_text.specs.FrameLines.{IsFrameLine, IsNoFrame}
use Rattle.sql_text.specs.Words.{is_blank_line}
use Rattle.sql_text.specs.declared.parsing.Reason.{Reason}
use Rattle.workload_file.specs.declared.lines.Line.{Line}
use Rattle.workload_file.specs.declared.lines.Line.TheVariants.{Blank, Framed, Stated, Faulty}

abbrev pub is_feed : ℕ → Bool
is_feed b = b == 10

abbrev pub is_inside : ℕ → Bool
is_inside b = not (is_feed b)

-- a byte before some lines: a line feed ends a line before them, another byte begins the first of them
unfoldable pub with_byte : Bool → ℕ → List (List ℕ) → List (List ℕ)
with_byte true b lines = [] ∷ lines
with_byte false b [] = (b ∷ []) ∷ []
with_byte false b (line ∷ lines) = (b ∷ line) ∷ lines

-- the bytes cut at each line feed; where nothing stands behind the last, no line does
unfoldable pub lines_of : List ℕ → List (List ℕ)
lines_of [] = []
lines_of (b ∷ bytes) = with_byte (is_feed b) b (lines_of bytes)

abbrev pub ends_in_return : List ℕ → Bool
ends_in_return line = slice_index line (length line - 1) == 13

unfoldable pub cut_if : Bool → List ℕ → List ℕ
cut_if true line = take (length line - 1) line
cut_if false line = line

-- a line without the carriage return at its end: one is dropped
unfoldable pub without_return : List ℕ → List ℕ
without_return line = cut_if (ends_in_return line) line

-- the line is neither blank nor a frame's, and this is the first reason why it gives no statement
pub record IsFaulty (line : List ℕ) (reason : Reason) : Type 0 where
  pub not_blank : is_blank_line line ≡ false
  pub no_frame : IsNoFrame line
  pub at : ℕ
  pub fault : IsFault line at reason

-- what a line says
abbrev pub IsLine : List ℕ → Line → Type 0
IsLine line Blank = is_blank_line line ≡ true
IsLine line (Framed frame) = IsFrameLine line frame
IsLine line (Stated statement) = Gives line statement
IsLine line (Faulty reason) = IsFaulty line reason
