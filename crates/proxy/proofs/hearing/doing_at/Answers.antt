use Rattle.std.proofs.Common.{◌≡◌, ◌∙◌, ap, sym, subst, refl, length, get_or, ◌<◌, ◌≤◌, [], ◌∷◌, drop, ◌+◌}
use Rattle.mope_base.specs.declared.numbers.TableNo.{TableNo}
use Rattle.proxy.specs.Standing.{tasks_left, stop_in, acts_from}
use Rattle.proxy.specs.Tasks.{acts_of, last_task, looks}
use Rattle.proxy.proofs.StandingLemmas.{acts_from-some, acts_from-done, acts_from-none}
use Rattle.proxy.proofs.hearing.doing_at.Goals as goal

pub returns-then-act-acts-clause-tasks : goal.returns-then-act-acts-clause-tasks
unfolding tasks_left
returns-then-act-acts-clause-tasks c =
    acts_from-none (acts_of c.args.piece.now) c.args.act c.args.constant (last_task c.args.piece.now ∷ [])
    (subst (λ l. length l ≤ c.args.act) c.acts_in-acts.ensures c.if-act-acts.true)

pub returns-then-act-acts-clause-stop : goal.returns-then-act-acts-clause-stop
unfolding stop_in
returns-then-act-acts-clause-stop c = refl

pub returns-in-Some-clause-tasks : goal.returns-in-Some-clause-tasks
unfolding tasks_left
returns-in-Some-clause-tasks c =
    ap (λ (t : TableNo). looks t c.in-Some.column c.in-Some.value ∷ acts_from (drop c.args.act (acts_of c.args.piece.now)) (c.args.constant + 1) (last_task c.args.piece.now ∷ [])) c.table_of.ensures
    ∙ acts_from-some (acts_of c.args.piece.now) c.args.act c.index-acts-act.result c.args.constant (c.in-Some.column, c.in-Some.value) (last_task c.args.piece.now ∷ [])
    (subst (λ l. c.args.act < length l) c.acts_in-acts.ensures c.if-act-acts.false)
    (subst (λ l. c.index-acts-act.result ≡ get_or l c.args.act c.index-acts-act.result) c.acts_in-acts.ensures c.index-acts-act.is)
    (sym c.in-Some.is ∙ c.constant_at.ensures.is)

pub returns-in-Some-clause-stop : goal.returns-in-Some-clause-stop
unfolding stop_in
returns-in-Some-clause-stop c = refl

pub returns-in-None-clause-tasks : goal.returns-in-None-clause-tasks
unfolding tasks_left
returns-in-None-clause-tasks c =
    acts_from-done (acts_of c.args.piece.now) c.args.act c.index-acts-act.result c.args.constant (last_task c.args.piece.now ∷ [])
    (subst (λ l. c.args.act < length l) c.acts_in-acts.ensures c.if-act-acts.false)
    (subst (λ l. c.index-acts-act.result ≡ get_or l c.args.act c.index-acts-act.result) c.acts_in-acts.ensures c.index-acts-act.is)
    c.in-None.ensures.is

pub returns-in-None-clause-stop : goal.returns-in-None-clause-stop
unfolding stop_in
returns-in-None-clause-stop c = refl
