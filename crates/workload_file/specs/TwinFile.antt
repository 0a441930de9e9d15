-- What the bytes of a file give that holds two workloads of one shape, one behind the other.
use Rattle.std.specs.Prelude.{◌≡◌, ◌⊎◌, ℕ, suc, Bool, true, false, List, [], ◌∷◌, ◌++◌, length, map, Result, Ok, Err}
use Rattle.sql_text.specs.declared.frames.Frame.TheVariants.{End}
use Rattle.workload.specs.declared.script.Workload.{Workload}
use Rattle.workload_file.specs.FileLines.{IsLine, lines_of, without_return}
use Rattle.workload_file.specs.Shapes.{line_shape}
use Rattle.workload_file.specs.Steps.{start}
use Rattle.workload_file.specs.WorkloadFile.{Leads, is_too_long}
use Rattle.workload_file.specs.declared.lines.Line.{Line}
use Rattle.workload_file.specs.declared.lines.Line.TheVariants.{Blank, Framed, Stated, Faulty}
use Rattle.workload_file.specs.declared.stops.FileReason.{FileReason}
use Rattle.workload_file.specs.declared.stops.FileReason.TheVariants as reason
use Rattle.workload_file.specs.declared.stops.FileStop.{FileStop}
use Rattle.workload_file.specs.declared.stops.FileStop.TheVariants.{Bad, OutOfMemory}

-- a line that isn't blank: its number and what it says
pub record SaidLine : Type 0 where
  pub number : ℕ
  pub said : Line

-- its shape
abbrev pub shape_of : SaidLine → Line
shape_of line = line_shape line.said

-- some lines say this: a line that says so comes first
unfoldable pub Follows : Line → ℕ → (List SaidLine → Type 0) → List SaidLine → Type 0
Follows Blank n Rest all = Rest all
Follows (Framed f) n Rest all = (later : List SaidLine) × Rest later × (all ≡ record { number = n; said = Framed f } ∷ later)
Follows (Stated s) n Rest all = (later : List SaidLine) × Rest later × (all ≡ record { number = n; said = Stated s } ∷ later)
Follows (Faulty r) n Rest all = (later : List SaidLine) × Rest later × (all ≡ record { number = n; said = Faulty r } ∷ later)

-- all lines that aren't blank, of which the first line is number n
unfoldable pub Say : ℕ → List (List ℕ) → List SaidLine → Type 0
Say n [] all = all ≡ []
Say n (line ∷ lines) all = (one : Line) × IsLine (without_return line) one × Follows one n (Say (suc n) lines) all

-- the first position whose shapes differ is at this line of the second
unfoldable pub DifferAt : List SaidLine → List SaidLine → ℕ → Type 0
DifferAt [] second number = ⊥
DifferAt (x ∷ first) [] number = ⊥
DifferAt (x ∷ first) (y ∷ second) number =
    ((shape_of x ≡ shape_of y) × DifferAt first second number) ⊎ ((shape_of x ≡ shape_of y → ⊥) × (number ≡ y.number))

-- the lines up to the END of a first workload, and those behind it
pub record IsCut (lines : List (List ℕ)) (w : Workload) (front back : List (List ℕ)) : Type 0 where
  pub before : List (List ℕ)
  pub last : List ℕ
  pub is_end : IsLine (without_return last) (Framed End)
  pub front_is : front ≡ before ++ last ∷ []
  pub whole : lines ≡ front ++ back
  pub spelled : Leads 1 start front (Ok w)

-- the first workload of some lines, the lines behind its END and the number of the first of these
pub record IsFirst (lines : List (List ℕ)) (w : Workload) (back : List (List ℕ)) (number : ℕ) : Type 0 where
  pub front : List (List ℕ)
  pub cut : IsCut lines w front back
  pub number_is : number ≡ suc (length front)

-- two workloads, and what the lines of each say
pub record AreTwo (lines : List (List ℕ)) (v w : Workload) (first second : List SaidLine) : Type 0 where
  pub front : List (List ℕ)
  pub back : List (List ℕ)
  pub cut : IsCut lines v front back
  pub spelled : Leads (suc (length front)) start back (Ok w)
  pub first_says : Say 1 front first
  pub second_says : Say (suc (length front)) back second

-- they have one shape
pub record AreTwins (lines : List (List ℕ)) (v w : Workload) : Type 0 where
  pub first : List SaidLine
  pub second : List SaidLine
  pub two : AreTwo lines v w first second
  pub same : map shape_of first ≡ map shape_of second

-- the lines have this fault, and those before it lack an END
pub record IsFirstFault (lines : List (List ℕ)) (number : ℕ) (why : FileReason) : Type 0 where
  pub before : List (List ℕ)
  pub behind : List (List ℕ)
  pub whole : lines ≡ before ++ behind
  pub number_is : number ≡ suc (length before)
  pub not_ended : Leads 1 start before (Err (Bad number reason.NoEnd))
  pub fault : Leads 1 start lines (Err (Bad number why))

-- the fault is in the lines behind the END of the first workload
pub record IsSecondFault (lines : List (List ℕ)) (number : ℕ) (why : FileReason) : Type 0 where
  pub first : Workload
  pub front : List (List ℕ)
  pub back : List (List ℕ)
  pub cut : IsCut lines first front back
  pub fault : Leads (suc (length front)) start back (Err (Bad number why))

-- both are workloads, and the second has another shape from this line on
pub record HaveTwoShapes (lines : List (List ℕ)) (number : ℕ) (why : FileReason) : Type 0 where
  pub v : Workload
  pub w : Workload
  pub first : List SaidLine
  pub second : List SaidLine
  pub two : AreTwo lines v w first second
  pub differ : DifferAt first second number
  pub why_is : why ≡ reason.ShapesDiffer

abbrev pub IsTwinFault : List (List ℕ) → ℕ → FileReason → Type 0
IsTwinFault lines number why = IsFirstFault lines number why ⊎ (IsSecondFault lines number why ⊎ HaveTwoShapes lines number why)

-- why the lines begin with no workload, or want of memory
abbrev pub IsFirstStop : List (List ℕ) → FileStop → Type 0
IsFirstStop lines (Bad number why) = IsFirstFault lines number why
IsFirstStop lines OutOfMemory = Unit {0}

-- what a file of two workloads gives
abbrev pub TwinVerdict : Type 0
TwinVerdict = Result (Workload × Workload) FileStop

abbrev pub GivesTwo : List (List ℕ) → TwinVerdict → Type 0
GivesTwo lines (Ok pair) = AreTwins lines pair.0 pair.1
GivesTwo lines (Err (Bad number why)) = IsTwinFault lines number why
GivesTwo lines (Err OutOfMemory) = ⊥

unfoldable pub GivesTwoUnless : Bool → List ℕ → TwinVerdict → Type 0
GivesTwoUnless true bytes verdict = verdict ≡ Err (Bad 0 reason.InputTooLong)
GivesTwoUnless false bytes verdict = GivesTwo (lines_of bytes) verdict

-- the bytes give this
abbrev pub GivesTwinVerdict : List ℕ → TwinVerdict → Type 0
GivesTwinVerdict bytes verdict = GivesTwoUnless (is_too_long bytes) bytes verdict

-- the bytes spell the two workloads, which have one shape
abbrev pub IsTwinFile : List ℕ → Workload × Workload → Type 0
IsTwinFile bytes pair = GivesTwinVerdict bytes (Ok pair)

-- the two workloads were read, unless memory did not suffice
abbrev pub AreReadAs : Workload × Workload → TwinVerdict → Type 0
AreReadAs pair (Ok read) = read ≡ pair
AreReadAs pair (Err stop) = stop ≡ OutOfMemory

-- they spell no two workloads of one shape, and this is the first fault; or memory did not suffice
abbrev pub IsTwinRefusal : List ℕ → FileStop → Type 0
IsTwinRefusal bytes (Bad number why) = GivesTwinVerdict bytes (Err (Bad number why))
IsTwinRefusal bytes OutOfMemory = Unit {0}
