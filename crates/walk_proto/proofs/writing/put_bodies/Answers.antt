use Rattle.std.proofs.Common.{rules, arith}
use Rattle.std.proofs.lemmas.Grind.{common_steps}
use Rattle.walk_proto.proofs.Fitting.{fits_none, fits_next}
use Rattle.walk_proto.proofs.writing.put_bodies.Goals as goal

pub bodies-init : goal.bodies-init
bodies-init c = record { spelled = search rules; fits = fits_none }

pub bodies-preserved : goal.bodies-preserved
bodies-preserved c = record {
  spelled = grind (arith, common_steps);
  fits = fits_next c.args.bodies.now c.bodies.body-index _ c.bodies-test.true c.bodies.invariant.fits c.in_ok-put_body.ensures.fits;
}
