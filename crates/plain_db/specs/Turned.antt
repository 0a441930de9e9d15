-- The state after the next turn of a session. The words are those of `Running`.
use Rattle.std.specs.Prelude.{ℕ, List, drop}
use Rattle.mope_base.specs.declared.numbers.SessionNo.{SessionNo}
use Rattle.workload.specs.declared.script.Piece.{Piece}
use Rattle.plain_db.specs.declared.state.Standing.{Standing}
use Rattle.plain_db.specs.declared.state.Standing.TheVariants as standing
use Rattle.plain_db.specs.declared.state.State.{State}
use Rattle.plain_db.specs.Running.{SettledBy, BeganBy}

unfoldable pub TurnedBy : List Piece → Standing → State → State → SessionNo → ℕ → ℕ → Type 0
TurnedBy script standing.Ready state new s k ended = BeganBy (drop ended script) state new s k ended
TurnedBy script (standing.Committing base work) state new s k ended = SettledBy script (standing.Committing base work) state new s k ended
TurnedBy script (standing.Installing base t) state new s k ended = SettledBy script (standing.Installing base t) state new s k ended
