use Rattle.std.proofs.Common.{subst, sym, arith}
use Rattle.std.proofs.lemmas.Grind.{common_steps}
use Rattle.walk_proto.specs.Shapes.{BodiesFit}
use Rattle.walk_proto.proofs.Fitting.{fits_push}
use Rattle.walk_proto.proofs.parts.bodies_of.Goals as goal

pub bodies-preserved : goal.bodies-preserved
bodies-preserved c = record {
  spelled = grind (arith, common_steps);
  left = grind (arith, common_steps);
  fits = subst BodiesFit (sym c.in_ok-push.ensures.items) (fits_push c.bodies.bodies.items c.body_of.result.0 c.bodies.invariant.fits c.body_of.ensures.nonce_fits c.body_of.ensures.masked_fits);
}
