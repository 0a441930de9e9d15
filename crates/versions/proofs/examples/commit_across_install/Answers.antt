use Rattle.versions.proofs.Computed.{commits_across}
use Rattle.versions.proofs.examples.commit_across_install.Goals as goal

pub returns : goal.returns
returns c = commits_across
