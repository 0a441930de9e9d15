-- Laws of the definitions of runs.
use Rattle.std.specs.Prelude.{◌≡◌, List}
use Rattle.mope_base.specs.declared.numbers.SessionNo.{SessionNo}
use Rattle.workload.specs.declared.script.Workload.{Workload}
use Rattle.workload.specs.Run.{run, turns_taken, SkipsNone, LeavesNone, IsComplete}
use Rattle.workload.specs.History.{Serial, history}

-- for every workload, under every list of turns, the history of the run is one that a single thread could have made
abbrev pub HistoryIsSerial : Type 0
HistoryIsSerial = (w : Workload) (turns : List SessionNo) → Serial w (run w turns) (history (run w turns))

-- the turns that a run takes, taken again, give the same run
abbrev pub TurnsGiveRun : Type 0
TurnsGiveRun = (w : Workload) (turns : List SessionNo) → run w (turns_taken (run w turns)) ≡ run w turns

-- so the turns that a run takes are a complete list
abbrev pub TurnsTakenAreComplete : Type 0
TurnsTakenAreComplete = (w : Workload) (turns : List SessionNo) → IsComplete w (turns_taken (run w turns))

-- a complete list of turns skips none and leaves none
abbrev pub CompleteIsExact : Type 0
CompleteIsExact = (w : Workload) (turns : List SessionNo) → IsComplete w turns → SkipsNone w turns × LeavesNone w turns

-- and a list that skips none and leaves none is complete
abbrev pub ExactIsComplete : Type 0
ExactIsComplete = (w : Workload) (turns : List SessionNo) → SkipsNone w turns → LeavesNone w turns → IsComplete w turns
