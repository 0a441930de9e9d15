use Rattle.std.proofs.Common.{refl}
use Rattle.workload.specs.Outcome.{outcome_of, asked}
use Rattle.workload.specs.Transaction.{table_named}
use Rattle.plain_db.specs.Trying.{left_of, meets_full}
use Rattle.plain_db.proofs.TryLemmas.{left-shown, full-shown}
use Rattle.plain_db.proofs.trying.redo_one.Goals as goal

pub leave_after-requires-clause-is_there : goal.leave_after-requires-clause-is_there
unfolding table_named
leave_after-requires-clause-is_there c = rw c.in-Ask.is at c.requires.is_there

pub leave_after-requires-clause-numbered : goal.leave_after-requires-clause-numbered
unfolding table_named
leave_after-requires-clause-numbered c = rw c.in-Ask.is at c.requires.numbered

pub returns-in_ok-answer-in-Insert-clause-left : goal.returns-in_ok-answer-in-Insert-clause-left
returns-in_ok-answer-in-Insert-clause-left c =
    left-shown c.args.db.now c.answer.new.db c.args.act.now c.in_ok-answer-in-Insert.field-0 c.in_ok-answer-in-Insert.ensures.outcome c.in_ok-answer-in-Insert.ensures.full

pub returns-in_ok-answer-in-Insert-clause-full : goal.returns-in_ok-answer-in-Insert-clause-full
returns-in_ok-answer-in-Insert-clause-full c =
    full-shown c.args.db.now c.answer.new.db c.args.act.now c.in_ok-answer-in-Insert.field-0 c.in_ok-answer-in-Insert.ensures.outcome c.is_none.result c.is_none.ensures

pub returns-in-Ask-clause-left : goal.returns-in-Ask-clause-left
unfolding outcome_of asked left_of
returns-in-Ask-clause-left c = rw c.in-Ask.is c.leave_after.ensures

pub returns-in-Ask-clause-full : goal.returns-in-Ask-clause-full
unfolding outcome_of asked meets_full
returns-in-Ask-clause-full c = rw c.in-Ask.is refl
