use Rattle.std.proofs.Common.{◌∙◌, ap, refl, sym, length, None, false}
use Rattle.std.proofs.lemmas.Bool.{eqb-true, eqb-false}
use Rattle.std.proofs.lemmas.List.{nil_from_length}
use Rattle.plain_db.specs.Running.{wish_shown, wish_by}
use Rattle.plain_db.proofs.TurningLemmas.{wish-some}
use Rattle.plain_db.proofs.turning.end_at_begin.Goals as goal

pub returns-in-Some : goal.returns-in-Some
unfolding wish_shown wish_by
returns-in-Some c = rw c.in-Some.is refl

pub returns-then-rollback : goal.returns-then-rollback
unfolding wish_shown wish_by
returns-then-rollback c = rw (c.in-None.is, c.if-rollback.true) refl

pub returns-then-is_empty : goal.returns-then-is_empty
unfolding wish_shown wish_by
returns-then-is_empty c =
    rw (c.in-None.is, c.if-rollback.false)
    (ap (λ ops. wish_by None false ops) (sym (nil_from_length c.args.ops.now (eqb-true (length c.args.ops.now) 0 (sym c.is_empty.ensures ∙ c.if-is_empty.true)))))

pub returns-else-is_empty : goal.returns-else-is_empty
unfolding wish_shown
returns-else-is_empty c =
    rw (c.in-None.is, c.if-rollback.false)
    (wish-some c.args.ops.now (eqb-false (length c.args.ops.now) 0 (sym c.is_empty.ensures ∙ c.if-is_empty.false)))
