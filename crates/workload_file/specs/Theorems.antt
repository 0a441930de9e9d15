-- Laws of files.
use Rattle.std.specs.Prelude.{◌≡◌, ℕ, List}
use Rattle.workload.specs.Validity.{IsValid}
use Rattle.workload.specs.declared.script.Workload.{Workload}
use Rattle.workload_file.specs.Shapes.{HaveOneShape}
use Rattle.workload_file.specs.TwinFile.{AreTwins, TwinVerdict, GivesTwinVerdict}
use Rattle.workload_file.specs.WorkloadFile.{Verdict, GivesVerdict, IsWorkloadFile}

-- the bytes of a file give one verdict at most
abbrev pub FilesGiveOneVerdict : Type 0
FilesGiveOneVerdict = (bytes : List ℕ) (a b : Verdict) → GivesVerdict bytes a → GivesVerdict bytes b → a ≡ b

-- a workload that is read from a file is valid
abbrev pub WorkloadsReadAreValid : Type 0
WorkloadsReadAreValid = (bytes : List ℕ) (w : Workload) → IsWorkloadFile bytes w → IsValid w

-- as two workloads, too
abbrev pub TwinFilesGiveOneVerdict : Type 0
TwinFilesGiveOneVerdict = (bytes : List ℕ) (a b : TwinVerdict) → GivesTwinVerdict bytes a → GivesTwinVerdict bytes b → a ≡ b

-- lines of one shape spell two workloads that differ in their constants at most. Two that do may be spelled by lines of two shapes: BEGIN
-- and COMMIT round one statement, and the columns of SELECT * listed, are other lines for the same
abbrev pub TwinsHaveOneShape : Type 0
TwinsHaveOneShape = (lines : List (List ℕ)) (v w : Workload) → AreTwins lines v w → HaveOneShape v w
