use Rattle.code_changes.proofs.ItemCodes.{codes_of_items}
use Rattle.code_changes.proofs.laws.codes_of_items.Goals as goal

pub returns : goal.returns
returns g c = codes_of_items
