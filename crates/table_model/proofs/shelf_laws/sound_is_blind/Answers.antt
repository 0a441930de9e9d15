use Rattle.table_model.proofs.SoundMaps.{sound_is_blind}
use Rattle.table_model.proofs.shelf_laws.sound_is_blind.Goals as goal

pub returns : goal.returns
returns g c = sound_is_blind
