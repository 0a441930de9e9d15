use Rattle.versions.proofs.Computed.{writes_both}
use Rattle.versions.proofs.examples.two_tables.Goals as goal

pub returns : goal.returns
returns c = writes_both
