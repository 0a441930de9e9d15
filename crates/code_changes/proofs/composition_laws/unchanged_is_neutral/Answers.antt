use Rattle.code_changes.proofs.Neutral.{neutral}
use Rattle.code_changes.proofs.composition_laws.unchanged_is_neutral.Goals as goal

pub returns : goal.returns
returns c = neutral
