use Rattle.table_model.proofs.ShelfSoundOps.{empty_shelf_is_sound}
use Rattle.table_model.proofs.rank_laws.empty_shelf_is_sound.Goals as goal

pub returns : goal.returns
returns g c = empty_shelf_is_sound _
