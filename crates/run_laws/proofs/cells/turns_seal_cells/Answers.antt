use Rattle.run_laws.proofs.SealingRuns.{turns_seal_cells}
use Rattle.run_laws.proofs.cells.turns_seal_cells.Goals as goal

pub returns : goal.returns
returns c = turns_seal_cells
