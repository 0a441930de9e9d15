-- The index of the column read is the stored one.
use Rattle.std.proofs.Common.{◌≡◌, ◌<◌, ◌≤◌, List, length, get_or, refl, ap, ◌∙◌, sym, subst, arith}
use Rattle.std.proofs.lemmas.Bool.{lt-ltb}
use Rattle.tree_model.proofs.CarriedRanks.{false_is_true}
use Rattle.column_index.specs.Seen.{index_of}
use Rattle.enc_table.specs.declared.columns.Column.{Column as Stored}
use Rattle.enc_table.specs.Rows.{index_at}
use Rattle.enc_table.specs.Seen.{Seen}
use Rattle.enc_table.specs.Stored.{no_column, stored_at}
use Rattle.enc_table.proofs.TableSeen.{width-seen}
use Rattle.enc_table.proofs.TableLooks.{there-some, index-seen}
use Rattle.enc_table.proofs.table.Table.index.Goals as goal

pub returns-in-None-clause-there : goal.returns-in-None-clause-there
returns-in-None-clause-there c =
    let wide : length c.self.inside.rows.columns.items ≡ length c.args.self.now.shelf.columns = width-seen _ _ _ _ _ _ _ _ c.self.view_is in
    let same : length c.deref.result.now ≡ length c.self.inside.rows.columns.items = ap (λ (cs : List Stored). length cs) c.deref.ensures.value in
    (λ e. false_is_true e, λ h. c.in-None.ensures.lookup.0 ∙ lt-ltb c.args.column.0 (length c.deref.result.now) (omega (arith, h, wide, same)))

pub returns-in-Some-clause-there : goal.returns-in-Some-clause-there
returns-in-Some-clause-there c =
    let wide : length c.self.inside.rows.columns.items ≡ length c.args.self.now.shelf.columns = width-seen _ _ _ _ _ _ _ _ c.self.view_is in
    let same : length c.deref.result.now ≡ length c.self.inside.rows.columns.items = ap (λ (cs : List Stored). length cs) c.deref.ensures.value in
    (λ _. omega (arith, there-some c.args.column.0 (length c.deref.result.now) c.in-Some.ensures.lookup.0, wide, same), λ _. refl)

pub returns-in-Some-clause-entries : goal.returns-in-Some-clause-entries
unfolding stored_at
returns-in-Some-clause-entries c =
    let i = c.self.inside in
    let column = c.args.column.0 in
    let cs = i.rows.columns.items in
    let itself : column ≤ column = omega arith in
    let same : length c.deref.result.now ≡ length cs = ap (λ (ds : List Stored). length ds) c.deref.ensures.value in
    let is : c.in-Some.column.now ≡ stored_at cs column = c.in-Some.ensures.lookup.4 itself no_column ∙ ap (λ (ds : List Stored). get_or ds column no_column) c.deref.ensures.value in
    let there : column < length c.deref.result.now = there-some column (length c.deref.result.now) c.in-Some.ensures.lookup.0 in
    let within : column < length cs = omega (arith, there, same) in
    subst (λ (u : Seen). c.in-Some.column.now.index ≡ index_of (index_at column u.shelf)) c.self.view_is
    (ap (λ (d : Stored). d.index) is ∙ (c.self.invariant.held.each column within).indexed ∙ ap index_of (sym (index-seen i.rows.numbers i.next cs column c.self.invariant.held within)))
