use Rattle.plain_db.proofs.Taken.{taken-complete}
use Rattle.plain_db.proofs.laws.turns_taken_are_complete.Goals as goal

pub returns : goal.returns
returns c = taken-complete
