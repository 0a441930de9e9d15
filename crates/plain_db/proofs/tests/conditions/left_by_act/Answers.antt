use Rattle.std.proofs.Common.{rules}
use Rattle.workload.specs.Validity.{inserted_numbers}
use Rattle.plain_db.proofs.tests.conditions.left_by_act.Goals as goal

pub returns-in-Insert : goal.returns-in-Insert
unfolding inserted_numbers
returns-in-Insert c = search rules

pub returns-in-Ask : goal.returns-in-Ask
unfolding inserted_numbers
returns-in-Ask c = search rules
