use Rattle.code_changes.proofs.Gaps.{gap_adds_item}
use Rattle.code_changes.proofs.laws.gap_adds_item.Goals as goal

pub returns : goal.returns
returns g c = gap_adds_item
