use Rattle.std.proofs.Common.{refl, sym}
use Rattle.workload.specs.Outcome.{outcome_of, asked}
use Rattle.workload.specs.Transaction.{table_named}
use Rattle.plain_db.specs.Answerable.{outcome_shown}
use Rattle.plain_db.proofs.answering.answer.Goals as goal

pub insert_answer-requires : goal.insert_answer-requires
unfolding table_named
insert_answer-requires c = rw c.in-Insert.is at c.requires.is_there

pub ask_answer-requires-clause-is_there : goal.ask_answer-requires-clause-is_there
unfolding table_named
ask_answer-requires-clause-is_there c = rw c.in-Ask.is at c.requires.is_there

pub leave_after-requires-clause-is_there : goal.leave_after-requires-clause-is_there
unfolding table_named
leave_after-requires-clause-is_there c = rw c.in-Ask.is at c.requires.is_there

pub leave_after-requires-clause-numbered : goal.leave_after-requires-clause-numbered
unfolding table_named
leave_after-requires-clause-numbered c = rw c.in-Ask.is at c.requires.numbered

pub returns-in-Insert-clause-outcome : goal.returns-in-Insert-clause-outcome
unfolding outcome_of
returns-in-Insert-clause-outcome c = rw (c.in-Insert.is, sym c.as_slice.ensures) c.insert_answer.ensures.outcome

pub returns-in-Ok-clause-outcome : goal.returns-in-Ok-clause-outcome
unfolding outcome_of asked outcome_shown
returns-in-Ok-clause-outcome c = rw (c.in-Ask.is, c.in-Ok.ensures, c.leave_after.ensures) refl
