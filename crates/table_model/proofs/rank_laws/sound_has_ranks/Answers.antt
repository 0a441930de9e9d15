use Rattle.table_model.proofs.ByIndex.{sound_has_ranks}
use Rattle.table_model.proofs.rank_laws.sound_has_ranks.Goals as goal

pub returns : goal.returns
returns g c = sound_has_ranks
