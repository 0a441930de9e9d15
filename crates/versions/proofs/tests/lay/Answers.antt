use Rattle.std.proofs.Common.{◌≡◌, length, refl, ap, arith}
use Rattle.table_model.specs.Operations.{shelf_at}
use Rattle.enc_table.specs.Seen.{Seen}
use Rattle.versions.specs.Databases.{table_at}
use Rattle.versions.proofs.tests.lay.Goals as goal

pub apply_rebuild-requires-clause-there : goal.apply_rebuild-requires-clause-there
unfolding table_at
apply_rebuild-requires-clause-there c =
    let width : length c.in-Some.table.now.shelf.columns ≡ length (shelf_at c.args.version.now.shelves 0).columns = ap (λ (t : Seen). length t.shelf.columns) c.in-Some.ensures.value in
    record { table_there = c.in-Some.ensures.there.0 refl; column_there = omega (arith, width, c.columns.ensures.value, c.if-columns-eq0.false) }
