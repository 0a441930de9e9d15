use Rattle.run_laws.proofs.Computed.{first_commit_wins}
use Rattle.run_laws.proofs.examples.first_commit_wins.Goals as goal

pub returns : goal.returns
returns c = first_commit_wins
