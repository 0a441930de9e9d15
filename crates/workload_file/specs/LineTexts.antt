-- The text of a line's shape, and the comparison of two lists of lines by their shapes.
use Rattle.std.specs.Prelude.{◌≡◌, ◌⊎◌, ◌+◌, ℕ, Bool, true, false, List, [], ◌∷◌, ◌++◌, Option, Some, None, codes}
use Rattle.sql_text.specs.Canonical.{canonical}
use Rattle.sql_text.specs.declared.Name.{Name}
use Rattle.sql_text.specs.declared.frames.Frame.TheVariants as frame
use Rattle.workload_file.specs.Shapes.{statement_shape}
use Rattle.workload_file.specs.TwinFile.{SaidLine, Say}
use Rattle.workload_file.specs.declared.lines.Line.{Line}
use Rattle.workload_file.specs.declared.lines.Line.TheVariants.{Blank, Framed, Stated, Faulty}

-- names, each behind a space
unfoldable pub names_text : List Name → List ℕ
names_text [] = []
names_text (name ∷ names) = 32 ∷ (name.bytes ++ names_text names)

-- a text of what a line says, but for its constants
unfoldable pub shape_text : Line → List ℕ
shape_text Blank = []
shape_text (Framed frame.Header) = codes "MOPE"
shape_text (Framed (frame.Table name columns)) = codes "TABLE" ++ names_text (name ∷ columns)
shape_text (Framed frame.Session) = codes "SESSION"
shape_text (Framed frame.End) = codes "END"
shape_text (Stated statement) = canonical (statement_shape statement)
shape_text (Faulty reason) = []

-- the second list's shapes are the first of the first's
unfoldable pub Agree : List SaidLine → List SaidLine → Type 0
Agree first [] = Unit {0}
Agree [] (y ∷ second) = ⊥
Agree (x ∷ first) (y ∷ second) = (shape_text x.said ≡ shape_text y.said) × Agree first second

-- the second list has another shape from this line on, or the first ends there
unfoldable pub Part : List SaidLine → List SaidLine → ℕ → Type 0
Part first [] number = ⊥
Part [] (y ∷ second) number = number ≡ y.number
Part (x ∷ first) (y ∷ second) number =
    ((shape_text x.said ≡ shape_text y.said) × Part first second number) ⊎ ((shape_text x.said ≡ shape_text y.said → ⊥) × (number ≡ y.number))

abbrev pub AreCompared : List SaidLine → List SaidLine → Option ℕ → Type 0
AreCompared first second None = Agree first second
AreCompared first second (Some number) = Part first second number

-- all that two runs of lines say, of which the first lines have these numbers, compares like this
abbrev pub IsComparison : ℕ → List (List ℕ) → ℕ → List (List ℕ) → Option ℕ → Type 0
IsComparison m lines n others found =
    (first second : List SaidLine) → Say m lines first → Say n others second → AreCompared first second found

abbrev pub says_nothing : Line → Bool
says_nothing Blank = true
says_nothing (Framed f) = false
says_nothing (Stated s) = false
says_nothing (Faulty r) = false

-- no line says anything
pub record IsAllSaid (n : ℕ) (lines : List (List ℕ)) : Type 0 where
  pub none : (all : List SaidLine) → Say n lines all → all ≡ []

-- the first line that isn't blank, behind which the lines go on
pub record IsNextSaid (n : ℕ) (lines : List (List ℕ)) (number : ℕ) (said : Line) (rest : List (List ℕ)) : Type 0 where
  pub split : (all : List SaidLine) → Say n lines all → (later : List SaidLine) × (all ≡ record { number = number; said = said } ∷ later) × Say (number + 1) rest later
