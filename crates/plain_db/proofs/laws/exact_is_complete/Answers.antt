use Rattle.plain_db.proofs.Taken.{exact-complete}
use Rattle.plain_db.proofs.laws.exact_is_complete.Goals as goal

pub returns : goal.returns
returns c = exact-complete
