use Rattle.run_laws.proofs.NoSession.{none_is_skipped}
use Rattle.run_laws.proofs.stepping.none_is_skipped.Goals as goal

pub returns : goal.returns
returns c = none_is_skipped
