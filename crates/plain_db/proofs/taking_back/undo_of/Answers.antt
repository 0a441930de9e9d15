use Rattle.std.proofs.Common.{◌≡◌, ◌∙◌, ap, sym}
use Rattle.std.proofs.lemmas.Result.{IfOk-weaker}
use Rattle.workload.specs.Outcome.{outcome_of}
use Rattle.workload.specs.Transaction.{table_named}
use Rattle.workload.specs.PlainDatabase.{table_of, is_full}
use Rattle.plain_db.specs.TakingBack.{undone}
use Rattle.plain_db.proofs.TakingBackLemmas.{insert-undone}
use Rattle.plain_db.proofs.taking_back.undo_of.Goals as goal

pub returns-in-Insert : goal.returns-in-Insert
unfolding outcome_of undone table_named
returns-in-Insert c = λ a new is.
    insert-undone (is_full (table_of c.args.db.now c.in-Insert.table)) c.args.db.now new c.in-Insert.table c.in-Insert.values a
    (rw c.in-Insert.is at c.requires.is_there) (rw c.in-Insert.is at is)

pub returns-in-Ask : goal.returns-in-Ask
unfolding outcome_of
returns-in-Ask c =
    IfOk-weaker c.undo_of_ask.result _ _ (λ undo back. λ a new is. back a new (rw c.in-Ask.is at is)) c.undo_of_ask.ensures
