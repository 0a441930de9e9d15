use Rattle.std.proofs.Common.{refl}
use Rattle.plain_db.specs.Running.{ready_standing}
use Rattle.plain_db.proofs.turning.is_ready.Goals as goal

pub returns-in-Ready : goal.returns-in-Ready
unfolding ready_standing
returns-in-Ready c = rw c.in-Ready.is refl

pub returns-in-Committing : goal.returns-in-Committing
unfolding ready_standing
returns-in-Committing c = rw c.in-Committing.is refl

pub returns-in-Installing : goal.returns-in-Installing
unfolding ready_standing
returns-in-Installing c = rw c.in-Installing.is refl
