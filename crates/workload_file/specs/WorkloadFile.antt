-- What the bytes of a file give: a workload, or the first line that has a fault and its first reason.
use Rattle.std.specs.Prelude.{◌≡◌, ℕ, suc, Bool, true, false, nat_lt, List, [], ◌∷◌, length, Result, Ok, Err}
use Rattle.workload.specs.declared.script.Workload.{Workload}
use Rattle.workload_file.specs.FileLines.{IsLine, without_return}
use Rattle.workload_file.specs.Steps.{start, take}
use Rattle.workload_file.specs.declared.lines.Line.{Line}
use Rattle.workload_file.specs.declared.reader.Reader.{Reader}
use Rattle.workload_file.specs.declared.reader.Stage.{Stage}
use Rattle.workload_file.specs.declared.reader.Stage.TheVariants.{Opening, Declaring, Session, Ended}
use Rattle.workload_file.specs.declared.stops.FileReason.{FileReason}
use Rattle.workload_file.specs.declared.stops.FileReason.TheVariants as reason
use Rattle.workload_file.specs.declared.stops.FileStop.{FileStop}
use Rattle.workload_file.specs.declared.stops.FileStop.TheVariants.{Bad, OutOfMemory}
pub use Rattle.workload_file.specs.FileLines.{lines_of}

-- what a file gives: a workload, or why it gives none
abbrev pub Verdict : Type 0
Verdict = Result Workload FileStop

-- what has been read when the lines run out, n being the number of the line that is missing
unfoldable pub ended_at : Stage → ℕ → Reader → Verdict
ended_at Opening n reader = Err (Bad n reason.NoEnd)
ended_at Declaring n reader = Err (Bad n reason.NoEnd)
ended_at (Session pieces unfinished) n reader = Err (Bad n reason.NoEnd)
ended_at Ended n reader = Ok (record { tables = reader.tables; sessions = reader.sessions })

-- what a line of bytes makes of what has been read
pub record NextLine (reader : Reader) (line : List ℕ) (next : Result Reader FileReason) : Type 0 where
  pub said : Line
  pub is_line : IsLine (without_return line) said
  pub taken : next ≡ take reader said

-- after line n the rest is read on, or the line has a fault
unfoldable pub Goes : ℕ → Result Reader FileReason → (Reader → Type 0) → Verdict → Type 0
Goes n (Ok next) OnRest verdict = OnRest next
Goes n (Err why) OnRest verdict = verdict ≡ Err (Bad n why)

-- what the lines give, of which the first is number n, after what has been read. Lines behind one that has a fault
-- aren't read
unfoldable pub Leads : ℕ → Reader → List (List ℕ) → Verdict → Type 0
Leads n reader [] verdict = verdict ≡ ended_at reader.stage n reader
Leads n reader (line ∷ lines) verdict =
    (next : Result Reader FileReason) × NextLine reader line next × Goes n next (λ after. Leads (suc n) after lines verdict) verdict

unfoldable pub is_too_long : List ℕ → Bool
is_too_long bytes = nat_lt 67108864 (length bytes)

unfoldable pub GivesUnless : Bool → List ℕ → Verdict → Type 0
GivesUnless true bytes verdict = verdict ≡ Err (Bad 0 reason.InputTooLong)
GivesUnless false bytes verdict = Leads 1 start (lines_of bytes) verdict

-- the bytes give this
abbrev pub GivesVerdict : List ℕ → Verdict → Type 0
GivesVerdict bytes verdict = GivesUnless (is_too_long bytes) bytes verdict

-- the bytes spell the workload
abbrev pub IsWorkloadFile : List ℕ → Workload → Type 0
IsWorkloadFile bytes w = GivesVerdict bytes (Ok w)

-- the verdict of something that may run out of memory
abbrev pub IsToldBy : (Verdict → Type 0) → Verdict → Type 0
IsToldBy Is (Ok w) = Is (Ok w)
IsToldBy Is (Err (Bad line why)) = Is (Err (Bad line why))
IsToldBy Is (Err OutOfMemory) = Unit {0}

-- the bytes spell none, and this is the first line that has a fault and its first reason; or memory did not suffice
abbrev pub IsRefusal : List ℕ → FileStop → Type 0
IsRefusal bytes stop = IsToldBy (GivesVerdict bytes) (Err stop)

-- the workload was read, unless memory did not suffice
abbrev pub IsReadAs : Workload → Verdict → Type 0
IsReadAs w (Ok read) = read ≡ w
IsReadAs w (Err stop) = stop ≡ OutOfMemory
