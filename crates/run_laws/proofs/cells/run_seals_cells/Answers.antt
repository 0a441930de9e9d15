use Rattle.run_laws.proofs.SealingRuns.{run_seals_cells}
use Rattle.run_laws.proofs.cells.run_seals_cells.Goals as goal

pub returns : goal.returns
returns c = run_seals_cells
