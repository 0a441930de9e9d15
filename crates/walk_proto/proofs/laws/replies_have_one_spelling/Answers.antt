use Rattle.walk_proto.proofs.WireLaws.{replies_once}
use Rattle.walk_proto.proofs.laws.replies_have_one_spelling.Goals as goal

pub returns : goal.returns
returns c = replies_once
