use Rattle.table_model.proofs.ShelfSoundOps.{shelf_fits_rows}
use Rattle.table_model.proofs.rank_laws.shelf_fits_rows.Goals as goal

pub returns : goal.returns
returns g c = shelf_fits_rows
