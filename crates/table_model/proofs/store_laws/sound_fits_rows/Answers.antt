use Rattle.table_model.proofs.Sound.{sound_fits_rows}
use Rattle.table_model.proofs.store_laws.sound_fits_rows.Goals as goal

pub returns : goal.returns
returns g c = sound_fits_rows
