use Rattle.walk_proto.proofs.WireLaws.{requests_once}
use Rattle.walk_proto.proofs.laws.requests_have_one_spelling.Goals as goal

pub returns : goal.returns
returns c = requests_once
