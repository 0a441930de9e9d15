use Rattle.server_conn.proofs.Awaiting.{turns-go}
use Rattle.server_conn.proofs.laws.asked_turns_are_awaited.Goals as goal

pub returns : goal.returns
returns c = turns-go
