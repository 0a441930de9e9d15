-- The column read is the stored one.
use Rattle.std.proofs.Common.{◌≡◌, ◌<◌, ◌≤◌, List, length, get_or, refl, ap, ◌∙◌, sym, subst, arith}
use Rattle.std.proofs.lemmas.Bool.{lt-ltb}
use Rattle.tree_model.proofs.CarriedRanks.{false_is_true}
use Rattle.table_model.specs.Soundness.{column_at}
use Rattle.enc_table.specs.declared.columns.Column.{Column as Stored}
use Rattle.enc_table.specs.Seen.{Seen}
use Rattle.enc_table.specs.Stored.{no_column, stored_at, shelf_in}
use Rattle.enc_table.proofs.TableLists.{trees-at}
use Rattle.enc_table.proofs.TableSeen.{width-seen}
use Rattle.enc_table.proofs.TableLooks.{there-some}
use Rattle.enc_table.proofs.table.Table.tree.Goals as goal

pub returns-in-None-clause-there : goal.returns-in-None-clause-there
returns-in-None-clause-there c =
    let wide : length c.self.inside.rows.columns.items ≡ length c.args.self.now.shelf.columns = width-seen _ _ _ _ _ _ _ _ c.self.view_is in
    let same : length c.deref.result.now ≡ length c.self.inside.rows.columns.items = ap (λ (cs : List Stored). length cs) c.deref.ensures.value in
    (λ e. false_is_true e, λ h. c.in-None.ensures.lookup.0 ∙ lt-ltb c.args.column.0 (length c.deref.result.now) (omega (arith, h, wide, same)))

pub returns-in-Some-clause-there : goal.returns-in-Some-clause-there
returns-in-Some-clause-there c =
    let wide : length c.self.inside.rows.columns.items ≡ length c.args.self.now.shelf.columns = width-seen _ _ _ _ _ _ _ _ c.self.view_is in
    let same : length c.deref.result.now ≡ length c.self.inside.rows.columns.items = ap (λ (cs : List Stored). length cs) c.deref.ensures.value in
    (λ _. omega (arith, there-some c.args.column.0 (length c.deref.result.now) c.in-Some.ensures.lookup.0, wide, same), λ _. refl)

pub returns-in-Some-clause-column : goal.returns-in-Some-clause-column
unfolding stored_at shelf_in
returns-in-Some-clause-column c =
    let column = c.args.column.0 in
    let cs = c.self.inside.rows.columns.items in
    let itself : column ≤ column = omega arith in
    let is : c.in-Some.column.now ≡ stored_at cs column = c.in-Some.ensures.lookup.4 itself no_column ∙ ap (λ (ds : List Stored). get_or ds column no_column) c.deref.ensures.value in
    subst (λ (u : Seen). c.in-Some.column.now.tree.column ≡ column_at u.shelf.columns column) c.self.view_is (ap (λ (d : Stored). d.tree.column) is ∙ sym (trees-at cs column))

pub returns-in-Some-clause-fresh : goal.returns-in-Some-clause-fresh
unfolding stored_at
returns-in-Some-clause-fresh c =
    let column = c.args.column.0 in
    let cs = c.self.inside.rows.columns.items in
    let itself : column ≤ column = omega arith in
    let same : length c.deref.result.now ≡ length cs = ap (λ (ds : List Stored). length ds) c.deref.ensures.value in
    let is : c.in-Some.column.now ≡ stored_at cs column = c.in-Some.ensures.lookup.4 itself no_column ∙ ap (λ (ds : List Stored). get_or ds column no_column) c.deref.ensures.value in
    let there : column < length c.deref.result.now = there-some column (length c.deref.result.now) c.in-Some.ensures.lookup.0 in
    ap (λ (d : Stored). d.tree.spent) is ∙ (c.self.invariant.held.each column (omega (arith, there, same))).fresh
