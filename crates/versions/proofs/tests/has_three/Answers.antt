use Rattle.std.proofs.Common.{◌≡◌, true, refl, subst}
use Rattle.tree_model.specs.Places.{holds}
use Rattle.table_model.specs.Fitting.{AllAmong}
use Rattle.table_model.specs.Soundness.{kept_numbers}
use Rattle.enc_table.specs.Seen.{Seen}
use Rattle.versions.specs.Databases.{table_at}
use Rattle.versions.proofs.tests.has_three.Goals as goal

pub returns-clause-rows : goal.returns-clause-rows
unfolding table_at AllAmong
returns-clause-rows c = λ h.
    subst (λ (t : Seen). (holds 1 (kept_numbers t.shelf.kept) ≡ true) × ((holds 2 (kept_numbers t.shelf.kept) ≡ true) × ((holds 3 (kept_numbers t.shelf.kept) ≡ true) × Unit {0}))) c.in-Some.ensures.value
    (c.if-not-has_row.ensures refl, (c.if-not-has_row-2.ensures refl, (c.if-not-has_row-3.ensures refl, tt)))
