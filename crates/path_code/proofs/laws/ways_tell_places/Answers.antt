use Rattle.path_code.proofs.Rising.{ways_tell_places}
use Rattle.path_code.proofs.laws.ways_tell_places.Goals as goal

pub returns : goal.returns
returns g c = ways_tell_places
