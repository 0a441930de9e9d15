use Rattle.std.proofs.Common.{rules}
use Rattle.workload.specs.Validity.{HasNumbers}
use Rattle.plain_db.proofs.tests.conditions.has_numbers.Goals as goal

pub returns-in-Eq : goal.returns-in-Eq
unfolding HasNumbers
returns-in-Eq c = λ h. rw c.in-Eq.is (c.is_number.ensures h)

pub returns-in-Lt : goal.returns-in-Lt
unfolding HasNumbers
returns-in-Lt c = λ h. rw c.in-Lt.is (c.is_number-in-Lt.ensures h)

pub returns-in-Le : goal.returns-in-Le
unfolding HasNumbers
returns-in-Le c = λ h. rw c.in-Le.is (c.is_number-in-Le.ensures h)

pub returns-in-Gt : goal.returns-in-Gt
unfolding HasNumbers
returns-in-Gt c = λ h. rw c.in-Gt.is (c.is_number-in-Gt.ensures h)

pub returns-in-Ge : goal.returns-in-Ge
unfolding HasNumbers
returns-in-Ge c = λ h. rw c.in-Ge.is (c.is_number-in-Ge.ensures h)

pub returns-then-is_number : goal.returns-then-is_number
unfolding HasNumbers
returns-then-is_number c = λ h.
    rw c.in-Between.is (c.is_number-in-Between.ensures (search rules), c.is_number-then-is_number.ensures h)
