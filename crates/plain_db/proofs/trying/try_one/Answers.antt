use Rattle.std.proofs.Common.{◌≡◌, ◌∙◌, ap, sym, ◌++◌, ◌∷◌, [], if◌then◌else◌}
use Rattle.plain_db.specs.Answerable.{outcome_shown}
use Rattle.plain_db.specs.TakingBack.{all_undone}
use Rattle.plain_db.proofs.TryLemmas.{try-full, try-goes, left-full, left-answered}
use Rattle.plain_db.proofs.TakingBackLemmas.{undone-push}
use Rattle.plain_db.proofs.trying.try_one.Goals as goal

pub returns-in-None-clause-goes : goal.returns-in-None-clause-goes
returns-in-None-clause-goes c = λ work shows copy.
    try-full c.args.tried.now c.args.db.now c.answer.new.db work c.args.act.now c.table_of_act-t.result shows copy c.table_of_act-t.ensures
    (c.in_ok-answer.ensures.outcome ∙ ap (λ a. outcome_shown a c.answer.new.db) c.in-None.is)

pub returns-in-None-clause-left : goal.returns-in-None-clause-left
returns-in-None-clause-left c =
    left-full c.args.db.now c.answer.new.db c.args.act.now
    (c.in_ok-answer.ensures.outcome ∙ ap (λ a. outcome_shown a c.answer.new.db) c.in-None.is) (c.in_ok-answer.ensures.full c.in-None.is)

pub returns-in_ok-push-in-Some-3-clause-goes : goal.returns-in_ok-push-in-Some-3-clause-goes
returns-in_ok-push-in-Some-3-clause-goes c = λ work shows copy.
    try-goes c.args.tried.now _ c.args.db.now c.answer.new.db work c.args.act.now c.table_of_act-t.result c.in-Some.a shows copy c.table_of_act-t.ensures
    (c.in_ok-answer.ensures.outcome ∙ ap (λ a. outcome_shown a c.answer.new.db) c.in-Some.is)
    c.in_ok-push-in-Some.ensures.ok
    (c.in_ok-push_op-in-Some.ensures ∙ ap (λ b. c.args.tried.now.ops ++ (if b then c.table_of_act-t.result ∷ [] else [])) c.changes.ensures)
    c.in_ok-push-in-Some-2.ensures.ok

pub returns-in_ok-push-in-Some-3-clause-left : goal.returns-in_ok-push-in-Some-3-clause-left
returns-in_ok-push-in-Some-3-clause-left c =
    left-answered c.args.db.now c.answer.new.db c.args.act.now c.in-Some.a
    (c.in_ok-answer.ensures.outcome ∙ ap (λ a. outcome_shown a c.answer.new.db) c.in-Some.is)

pub returns-in_ok-push-in-Some-3-clause-back : goal.returns-in_ok-push-in-Some-3-clause-back
unfolding outcome_shown
returns-in_ok-push-in-Some-3-clause-back c =
    ap (λ l. all_undone l c.answer.new.db) c.in_ok-push-in-Some-3.ensures.items
    ∙ undone-push c.args.undos.now.items c.in_ok-undo.undo c.answer.new.db
    ∙ ap (λ db. all_undone c.args.undos.now.items db) (c.in_ok-undo.ensures c.in-Some.a c.answer.new.db
    (c.in_ok-answer.ensures.outcome ∙ ap (λ a. outcome_shown a c.answer.new.db) c.in-Some.is))
