-- Laws of statements.
use Rattle.std.specs.Prelude.{◌≡◌, ◌↔◌, ℕ, List, [], length, IsTrue}
use Rattle.sql_text.specs.Canonical.{canonical}
use Rattle.sql_text.specs.Faults.{Gives, HasTokens, IsFault, IsSpelled}
use Rattle.sql_text.specs.FrameLines.{IsFrameLine, IsNoFrame}
use Rattle.sql_text.specs.Words.{is_blank_line}
use Rattle.sql_text.specs.declared.frames.Frame.{Frame}
use Rattle.sql_text.specs.declared.parsing.Reason.{Reason}
use Rattle.sql_text.specs.declared.parsing.Reason.TheVariants.{Syntax}
use Rattle.sql_text.specs.declared.statements.Stmt.{Stmt}

-- a line gives one statement at most
abbrev pub LinesGiveOneStatement : Type 0
LinesGiveOneStatement = (line : List ℕ) (s t : Stmt) → Gives line s → Gives line t → s ≡ t

-- a line has one fault at most, at one place
abbrev pub LinesHaveOneFault : Type 0
LinesHaveOneFault = (line : List ℕ) (at other : ℕ) (reason why : Reason) → IsFault line at reason → IsFault line other why → (at ≡ other) × (reason ≡ why)

-- a line that has a fault gives no statement
abbrev pub FaultsGiveNoStatement : Type 0
FaultsGiveNoStatement = (line : List ℕ) (at : ℕ) (reason : Reason) (s : Stmt) → IsFault line at reason → Gives line s → ⊥

-- the canonical line of a statement that some line gives is one that gives it
abbrev pub PrintedIsRead : Type 0
PrintedIsRead = (line : List ℕ) (s : Stmt) → Gives line s → Gives (canonical s) s

-- a line is one frame at most
abbrev pub LinesAreOneFrame : Type 0
LinesAreOneFrame = (line : List ℕ) (f g : Frame) → IsFrameLine line f → IsFrameLine line g → f ≡ g

-- no line is both a frame and a statement
abbrev pub FramesGiveNoStatement : Type 0
FramesGiveNoStatement = (line : List ℕ) (f : Frame) (s : Stmt) → IsFrameLine line f → Gives line s → ⊥

-- nor does a frame spell a statement that has too many elements
abbrev pub FramesSpellNoStatement : Type 0
FramesSpellNoStatement = (line : List ℕ) (f : Frame) (s : Stmt) → IsFrameLine line f → IsSpelled line s → ⊥

-- read as a statement, a frame has no fault but one of syntax
abbrev pub FramesHaveNoOtherFault : Type 0
FramesHaveNoOtherFault = (line : List ℕ) (f : Frame) (at : ℕ) (reason : Reason) → IsFrameLine line f → IsFault line at reason → reason ≡ Syntax

-- a line is blank exactly where it has no tokens, and no fault of a byte or a token either
abbrev pub BlankLinesHaveNoTokens : Type 0
BlankLinesHaveNoTokens = (line : List ℕ) → IsTrue (is_blank_line line) ↔ HasTokens line []

-- it is no frame
abbrev pub BlankLinesAreNoFrames : Type 0
BlankLinesAreNoFrames = (line : List ℕ) → IsTrue (is_blank_line line) → IsNoFrame line

-- read as a statement, it ends where none has begun
abbrev pub BlankLinesAreNoStatements : Type 0
BlankLinesAreNoStatements = (line : List ℕ) → IsTrue (is_blank_line line) → IsFault line (length line) Syntax
