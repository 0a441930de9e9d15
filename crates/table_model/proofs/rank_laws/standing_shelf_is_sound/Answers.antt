use Rattle.table_model.proofs.ShelfSoundMaps.{standing_shelf_is_sound}
use Rattle.table_model.proofs.rank_laws.standing_shelf_is_sound.Goals as goal

pub returns : goal.returns
returns g c = standing_shelf_is_sound
