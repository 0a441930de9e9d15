use Rattle.table_model.proofs.Sound.{empty-sound}
use Rattle.table_model.proofs.store_laws.empty_is_sound.Goals as goal

pub returns : goal.returns
returns g c = empty-sound
