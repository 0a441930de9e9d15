use Rattle.code_changes.proofs.After.{differing-none}
use Rattle.code_changes.proofs.laws.nothing_differs.Goals as goal

pub returns : goal.returns
returns c = differing-none
