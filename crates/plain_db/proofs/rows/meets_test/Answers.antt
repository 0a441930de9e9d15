use Rattle.std.proofs.Common.{refl}
use Rattle.std.proofs.lemmas.Bool.{le-leb, lt-leb}
use Rattle.workload.specs.Selection.{meets}
use Rattle.plain_db.proofs.rows.meets_test.Goals as goal

pub returns-in-Eq : goal.returns-in-Eq
unfolding meets
returns-in-Eq c = rw c.in-Eq.is refl

pub returns-in-Lt : goal.returns-in-Lt
unfolding meets
returns-in-Lt c = rw c.in-Lt.is refl

pub returns-in-Le : goal.returns-in-Le
unfolding meets
returns-in-Le c = rw c.in-Le.is refl

pub returns-in-Gt : goal.returns-in-Gt
unfolding meets
returns-in-Gt c = rw c.in-Gt.is refl

pub returns-in-Ge : goal.returns-in-Ge
unfolding meets
returns-in-Ge c = rw c.in-Ge.is refl

pub returns-then-low-x : goal.returns-then-low-x
unfolding meets
returns-then-low-x c = rw (c.in-Between.is, le-leb c.in-Between.low c.args.x c.if-low-x.true) refl

pub returns-else-low-x : goal.returns-else-low-x
unfolding meets
returns-else-low-x c = rw (c.in-Between.is, lt-leb c.in-Between.low c.args.x c.if-low-x.false) refl
