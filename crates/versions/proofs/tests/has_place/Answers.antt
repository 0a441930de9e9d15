use Rattle.std.proofs.Common.{◌≡◌, ℕ, ◌<◌, ◌^◌, true, false, length, ap, ◌∙◌, subst, arith}
use Rattle.tree_model.specs.Trees.{size, IsPlaceOf}
use Rattle.tree_model.specs.Columns.{Column}
use Rattle.table_model.specs.Operations.{shelf_at}
use Rattle.table_model.specs.Soundness.{column_at}
use Rattle.enc_table.specs.Seen.{Seen}
use Rattle.versions.specs.Databases.{table_at}
use Rattle.versions.proofs.Trying.{has-room, has-number}
use Rattle.versions.proofs.tests.has_place.Goals as goal

pub returns-clause-column : goal.returns-clause-column
unfolding table_at
returns-clause-column c = λ h.
    let width : length c.in-Some.table.now.shelf.columns ≡ length (shelf_at c.args.version.now.shelves 0).columns = ap (λ (t : Seen). length t.shelf.columns) c.in-Some.ensures.value in
    omega (arith, width, c.columns.ensures.value, c.if-columns-ne1.false)

pub returns-clause-placed : goal.returns-clause-placed
unfolding table_at
returns-clause-placed c = λ h.
    let column : c.in-Some-tree.tree.now.column ≡ column_at (shelf_at c.args.version.now.shelves 0).columns 0 = c.in-Some-tree.ensures.column ∙ ap (λ (t : Seen). column_at t.shelf.columns 0) c.in-Some.ensures.value in
    subst (λ (n : ℕ). IsPlaceOf n c.args.place) (c.len.ensures.value ∙ ap (λ (d : Column _). size d.tree) column) (c.is_place.ensures h)

pub returns-clause-room : goal.returns-clause-room
unfolding table_at
returns-clause-room c = λ h.
    let few = has-room c.in-Some.table.now (λ full. let e : false ≡ true = c.if-full.ensures.1 full in cc e) in
    subst (λ (t : Seen). length t.shelf.kept < t.limit) c.in-Some.ensures.value few

pub returns-clause-row : goal.returns-clause-row
unfolding table_at
returns-clause-row c = λ h.
    let low = has-number c.in-Some.table.now (λ full. let e : false ≡ true = c.if-full.ensures.1 full in cc e) in
    subst (λ (t : Seen). t.shelf.next < 2 ^ 63) c.in-Some.ensures.value low
