use Rattle.table_model.proofs.ShelfSoundMaps.{shelf_sound_is_blind}
use Rattle.table_model.proofs.rank_laws.shelf_sound_is_blind.Goals as goal

pub returns : goal.returns
returns g c = shelf_sound_is_blind
