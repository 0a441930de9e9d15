use Rattle.std.proofs.Common.{refl}
use Rattle.versions.proofs.Trying.{row-fits}
use Rattle.versions.proofs.tests.put.Goals as goal

pub apply_ops-requires-clause-fit : goal.apply_ops-requires-clause-fit
apply_ops-requires-clause-fit c =
    let h = c.if-not-has_place.ensures in
    row-fits c.args.version.now c.as_slice.result.now c.args.place (record { nonce = 0; masked = c.args.value })
    (rw (c.as_slice.ensures, c.in_ok-ops.ensures, c.in_ok-one.ensures, c.in_ok-one-2.ensures) refl)
    (h.there refl) (h.column refl) (h.placed refl) (h.room refl) (h.row refl)
