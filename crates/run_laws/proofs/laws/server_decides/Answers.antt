use Rattle.run_laws.proofs.Deciding.{server_decides}
use Rattle.run_laws.proofs.laws.server_decides.Goals as goal

pub returns : goal.returns
returns c = server_decides
