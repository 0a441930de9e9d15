use Rattle.std.proofs.Common.{◌∙◌}
use Rattle.plain_db.proofs.trying.try_all.Goals as goal

pub returns-clause-goes : goal.returns-clause-goes
returns-clause-goes c = c.in_ok-tried.ensures.goes

pub returns-clause-back : goal.returns-clause-back
returns-clause-back c = c.in_ok-take_back.ensures ∙ c.in_ok-tried.ensures.back
