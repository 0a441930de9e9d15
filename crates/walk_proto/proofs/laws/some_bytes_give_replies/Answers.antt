use Rattle.walk_proto.proofs.WireLaws.{replies_given}
use Rattle.walk_proto.proofs.laws.some_bytes_give_replies.Goals as goal

pub returns : goal.returns
returns c = replies_given
