use Rattle.run_laws.proofs.Computed.{commit_across_install}
use Rattle.run_laws.proofs.examples.commit_across_install.Goals as goal

pub returns : goal.returns
returns c = commit_across_install
