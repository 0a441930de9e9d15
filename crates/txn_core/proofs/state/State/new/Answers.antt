use Rattle.txn_core.proofs.Starting.{starts}
use Rattle.txn_core.proofs.state.State.new.Goals as goal

pub invariant_of-result : goal.invariant_of-result
invariant_of-result c = rw (c.in_ok-current.ensures, c.in_ok-first.ensures, c.new.ensures.items) (starts c.args.first c.requires)
