-- Where a transaction is held, its own parts are handed over.
use Rattle.std.proofs.Common.{◌∙◌}
use Rattle.server_conn.proofs.Calls.{idle-none, begins-none, holds-some, awaits-some, none-iff, some-iff, none-held, one-held, held-base, held-touched, held-ops, held-done, holds-good, awaits-good, due-by}
use Rattle.server_conn.proofs.conn.Conn.ending.Goals as goal

pub returns-in-Idle-clause-there : goal.returns-in-Idle-clause-there
returns-in-Idle-clause-there c = none-iff _ (idle-none c.self.inside.stage c.self.inside.spent c.args.self.now c.self.view_is c.in-Idle.is)

pub returns-in-Idle-clause-fits : goal.returns-in-Idle-clause-fits
returns-in-Idle-clause-fits c = λ h is. absurd (none-held _ h (idle-none c.self.inside.stage c.self.inside.spent c.args.self.now c.self.view_is c.in-Idle.is) is)

pub returns-in-Idle-clause-due : goal.returns-in-Idle-clause-due
returns-in-Idle-clause-due c = due-by c.self.inside.stage c.self.inside.spent c.args.self.now c.self.view_is c.self.invariant

pub returns-in-Begins-clause-there : goal.returns-in-Begins-clause-there
returns-in-Begins-clause-there c = none-iff _ (begins-none c.self.inside.stage c.self.inside.spent c.args.self.now c.self.view_is c.in-Begins.is)

pub returns-in-Begins-clause-fits : goal.returns-in-Begins-clause-fits
returns-in-Begins-clause-fits c = λ h is. absurd (none-held _ h (begins-none c.self.inside.stage c.self.inside.spent c.args.self.now c.self.view_is c.in-Begins.is) is)

pub returns-in-Begins-clause-due : goal.returns-in-Begins-clause-due
returns-in-Begins-clause-due c = due-by c.self.inside.stage c.self.inside.spent c.args.self.now c.self.view_is c.self.invariant

pub returns-in-Holds-clause-there : goal.returns-in-Holds-clause-there
returns-in-Holds-clause-there c = some-iff c.ending.result _ _ (holds-some c.self.inside.stage c.self.inside.spent c.args.self.now c.in-Holds.txn c.self.view_is c.in-Holds.is)

pub returns-in-Holds-clause-base : goal.returns-in-Holds-clause-base
returns-in-Holds-clause-base c = λ h is. c.ending.ensures.base ∙ held-base c.in-Holds.txn h (one-held _ c.in-Holds.txn h (holds-some c.self.inside.stage c.self.inside.spent c.args.self.now c.in-Holds.txn c.self.view_is c.in-Holds.is) is)

pub returns-in-Holds-clause-touched : goal.returns-in-Holds-clause-touched
returns-in-Holds-clause-touched c = λ h is. c.ending.ensures.touched ∙ held-touched c.in-Holds.txn h (one-held _ c.in-Holds.txn h (holds-some c.self.inside.stage c.self.inside.spent c.args.self.now c.in-Holds.txn c.self.view_is c.in-Holds.is) is)

pub returns-in-Holds-clause-ops : goal.returns-in-Holds-clause-ops
returns-in-Holds-clause-ops c = λ h is. c.ending.ensures.ops ∙ held-ops c.in-Holds.txn h (one-held _ c.in-Holds.txn h (holds-some c.self.inside.stage c.self.inside.spent c.args.self.now c.in-Holds.txn c.self.view_is c.in-Holds.is) is)

pub returns-in-Holds-clause-fits : goal.returns-in-Holds-clause-fits
returns-in-Holds-clause-fits c = λ h is. held-done c.in-Holds.txn h (holds-good c.self.inside.stage c.self.inside.spent c.in-Holds.txn c.self.invariant c.in-Holds.is) (one-held _ c.in-Holds.txn h (holds-some c.self.inside.stage c.self.inside.spent c.args.self.now c.in-Holds.txn c.self.view_is c.in-Holds.is) is)

pub returns-in-Holds-clause-due : goal.returns-in-Holds-clause-due
returns-in-Holds-clause-due c = due-by c.self.inside.stage c.self.inside.spent c.args.self.now c.self.view_is c.self.invariant

pub returns-in-Awaits-clause-there : goal.returns-in-Awaits-clause-there
returns-in-Awaits-clause-there c = some-iff c.ending-in-Awaits.result _ _ (awaits-some c.self.inside.stage c.self.inside.spent c.args.self.now c.in-Awaits.txn _ c.self.view_is c.in-Awaits.is)

pub returns-in-Awaits-clause-base : goal.returns-in-Awaits-clause-base
returns-in-Awaits-clause-base c = λ h is. c.ending-in-Awaits.ensures.base ∙ held-base c.in-Awaits.txn h (one-held _ c.in-Awaits.txn h (awaits-some c.self.inside.stage c.self.inside.spent c.args.self.now c.in-Awaits.txn _ c.self.view_is c.in-Awaits.is) is)

pub returns-in-Awaits-clause-touched : goal.returns-in-Awaits-clause-touched
returns-in-Awaits-clause-touched c = λ h is. c.ending-in-Awaits.ensures.touched ∙ held-touched c.in-Awaits.txn h (one-held _ c.in-Awaits.txn h (awaits-some c.self.inside.stage c.self.inside.spent c.args.self.now c.in-Awaits.txn _ c.self.view_is c.in-Awaits.is) is)

pub returns-in-Awaits-clause-ops : goal.returns-in-Awaits-clause-ops
returns-in-Awaits-clause-ops c = λ h is. c.ending-in-Awaits.ensures.ops ∙ held-ops c.in-Awaits.txn h (one-held _ c.in-Awaits.txn h (awaits-some c.self.inside.stage c.self.inside.spent c.args.self.now c.in-Awaits.txn _ c.self.view_is c.in-Awaits.is) is)

pub returns-in-Awaits-clause-fits : goal.returns-in-Awaits-clause-fits
returns-in-Awaits-clause-fits c = λ h is. held-done c.in-Awaits.txn h (awaits-good c.self.inside.stage c.self.inside.spent c.in-Awaits.txn _ c.self.invariant c.in-Awaits.is) (one-held _ c.in-Awaits.txn h (awaits-some c.self.inside.stage c.self.inside.spent c.args.self.now c.in-Awaits.txn _ c.self.view_is c.in-Awaits.is) is)

pub returns-in-Awaits-clause-due : goal.returns-in-Awaits-clause-due
returns-in-Awaits-clause-due c = due-by c.self.inside.stage c.self.inside.spent c.args.self.now c.self.view_is c.self.invariant
