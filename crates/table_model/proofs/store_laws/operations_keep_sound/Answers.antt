use Rattle.table_model.proofs.Sound.{operations_keep_sound}
use Rattle.table_model.proofs.store_laws.operations_keep_sound.Goals as goal

pub returns : goal.returns
returns g c = operations_keep_sound
