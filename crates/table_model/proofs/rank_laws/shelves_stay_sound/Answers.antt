use Rattle.table_model.proofs.ShelfTables.{shelves_stay_sound}
use Rattle.table_model.proofs.rank_laws.shelves_stay_sound.Goals as goal

pub returns : goal.returns
returns g c = shelves_stay_sound
