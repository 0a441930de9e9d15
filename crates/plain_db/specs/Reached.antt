-- The states that turns of a workload lead to.
use Rattle.mope_base.specs.declared.numbers.SessionNo.{SessionNo}
use Rattle.workload.specs.declared.script.Workload.{Workload}
use Rattle.workload.specs.Run.{Run, initial, take_turn, settled}

-- from the start by turns, and by what sessions settle
pub data IsReached (w : Workload) : Run → Type 0 where
  at_start : IsReached w (initial w)
  by_turn : (r : Run) → IsReached w r → (s : SessionNo) → IsReached w (take_turn r s)
  by_settling : (r : Run) → IsReached w r → (s : SessionNo) → IsReached w (settled r s)
