use Rattle.table_model.proofs.ShelfSoundMaps.{shelf_of_sound}
use Rattle.table_model.proofs.rank_laws.shelf_of_sound.Goals as goal

pub returns : goal.returns
returns g c = shelf_of_sound
