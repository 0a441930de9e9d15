use Rattle.walk_proto.proofs.WireLaws.{requests_given}
use Rattle.walk_proto.proofs.laws.some_bytes_give_requests.Goals as goal

pub returns : goal.returns
returns c = requests_given
