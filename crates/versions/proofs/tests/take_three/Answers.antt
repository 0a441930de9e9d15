use Rattle.std.proofs.Common.{refl}
use Rattle.versions.proofs.Trying.{rows-fit}
use Rattle.versions.proofs.tests.take_three.Goals as goal

pub apply_ops-requires-clause-fit : goal.apply_ops-requires-clause-fit
apply_ops-requires-clause-fit c =
    rows-fit c.args.version.now c.as_slice.result.now
    (rw (c.as_slice.ensures, c.in_ok-ops.ensures, c.in_ok-push-3.ensures.ok, c.in_ok-push-2.ensures.ok, c.in_ok-push.ensures.ok, c.new-rows.ensures) refl)
    (c.if-not-has_three.ensures.there refl) (c.if-not-has_three.ensures.rows refl)
