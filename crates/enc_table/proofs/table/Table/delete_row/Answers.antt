-- One row fewer, or all is gone.
use Rattle.std.proofs.Common.{◌≡◌, ◌<◌, ℕ, Bool, true, List, length, get_or, remove, ap, ◌∙◌, sym, subst}
use Rattle.std.proofs.lemmas.Option.{get_or_from_slice_get, slice_get_within}
use Rattle.mope_base.specs.declared.body.Body.{Body}
use Rattle.mope_base.specs.Modes.{is_same_time}
use Rattle.tree_model.specs.Places.{holds}
use Rattle.path_code.specs.Sums.{Sum}
use Rattle.table_model.specs.Steps.{drops}
use Rattle.table_model.specs.Changes.{ranks_of, delete_row}
use Rattle.table_model.specs.Soundness.{kept_numbers}
use Rattle.enc_table.specs.Seen.{Seen, IsTable, spent_table, with_shelf}
use Rattle.enc_table.specs.Stored.{shelf_in}
use Rattle.enc_table.specs.Sums.{sums}
use Rattle.enc_table.specs.Fields.{after_each, seen_in}
use Rattle.enc_table.proofs.KeptDrops.{gone-is, fit-drops}
use Rattle.enc_table.proofs.TableSeen.{spent-fields, spent-seen, width-seen, numbers-seen, rise-of, drops-row}
use Rattle.enc_table.proofs.TableOpen.{drop_sums-are}
use Rattle.enc_table.proofs.TableDeleting.{some-of, found-at, live-fresh}
use Rattle.enc_table.proofs.table.Table.delete_row.Goals as goal

pub position_of-requires : goal.position_of-requires
position_of-requires c = rise-of _ _ _ _ _ _ _ c.self.invariant

pub unwrap-position-requires : goal.unwrap-position-requires
unwrap-position-requires c =
    some-of c.position_of.result c.args.row c.self.inside.rows.numbers c.position_of.ensures
    (ap (λ (ns : List ℕ). holds c.args.row ns) (numbers-seen _ _ _ _ _ _ _ _ c.self.invariant c.self.view_is) ∙ c.requires.live)

pub drop_row-requires-clause-wide : goal.drop_row-requires-clause-wide
drop_row-requires-clause-wide c = c.requires.wide ∙ sym (width-seen _ _ _ _ _ _ _ _ c.self.view_is)

pub drop_row-requires-clause-fits : goal.drop_row-requires-clause-fits
drop_row-requires-clause-fits c =
    let i = c.self.inside in
    let position = c.unwrap-position.result in
    let there = found-at c.position_of.result position c.args.row i.rows.numbers c.position_of.ensures c.unwrap-position.ensures in
    fit-drops (is_same_time i.mode) i.limit i.next i.rows.numbers i.rows.columns.items position c.args.row c.self.invariant.table.sound c.self.invariant.held
    (slice_get_within i.rows.numbers position c.args.row there) (get_or_from_slice_get i.rows.numbers position c.args.row 0 there)

pub invariant_of-self : goal.invariant_of-self
invariant_of-self c =
    let i = c.self.inside in
    let t = c.args.self.now in
    let position = c.unwrap-position.result in
    let there = found-at c.position_of.result position c.args.row i.rows.numbers c.position_of.ensures c.unwrap-position.ensures in
    let fresh = ap (λ (u : Seen). u.spent) c.self.view_is ∙ live-fresh t c.args.row (subst IsTable c.self.view_is c.self.invariant.table) c.requires.live in
    (drops-row (is_same_time i.mode) i.limit i.stamps i.next i.rows.numbers i.rows.columns.items i.spent position c.args.row c.drop_row.new.self.numbers c.drop_row.new.self.columns.items c.self.invariant fresh
    (slice_get_within i.rows.numbers position c.args.row there) (get_or_from_slice_get i.rows.numbers position c.args.row 0 there)
    c.in-Ok.ensures.numbers c.drop_row.ensures.many c.in-Ok.ensures.columns).fields

pub invariant_of-self-in-Err : goal.invariant_of-self-in-Err
invariant_of-self-in-Err c =
    let i = c.self.inside in
    spent-fields (is_same_time i.mode) i.limit i.stamps i.next i.rows.numbers i.rows.columns.items i.spent c.drop_row.new.self.numbers c.drop_row.new.self.columns.items c.self.invariant c.in-Err.ensures.no_numbers c.in-Err.ensures.no_columns

pub returns-in-Ok-clause-table : goal.returns-in-Ok-clause-table
returns-in-Ok-clause-table c =
    let i = c.self.inside in
    let t = c.args.self.now in
    let same_time = is_same_time i.mode in
    let position = c.unwrap-position.result in
    let there = found-at c.position_of.result position c.args.row i.rows.numbers c.position_of.ensures c.unwrap-position.ensures in
    let fresh = ap (λ (u : Seen). u.spent) c.self.view_is ∙ live-fresh t c.args.row (subst IsTable c.self.view_is c.self.invariant.table) c.requires.live in
    subst (λ (u : Seen). seen_in same_time i.limit i.stamps i.next c.drop_row.new.self.numbers c.drop_row.new.self.columns.items i.spent ≡ with_shelf (delete_row u.same_time c.args.row u.shelf) u) c.self.view_is
    (drops-row same_time i.limit i.stamps i.next i.rows.numbers i.rows.columns.items i.spent position c.args.row c.drop_row.new.self.numbers c.drop_row.new.self.columns.items c.self.invariant fresh
    (slice_get_within i.rows.numbers position c.args.row there) (get_or_from_slice_get i.rows.numbers position c.args.row 0 there)
    c.in-Ok.ensures.numbers c.drop_row.ensures.many c.in-Ok.ensures.columns).seen

pub returns-in-Ok-clause-changes : goal.returns-in-Ok-clause-changes
unfolding shelf_in
returns-in-Ok-clause-changes c =
    let i = c.self.inside in
    let same_time = is_same_time i.mode in
    let position = c.unwrap-position.result in
    let there = found-at c.position_of.result position c.args.row i.rows.numbers c.position_of.ensures c.unwrap-position.ensures in
    let gone = gone-is i.rows.numbers i.rows.columns.items position c.args.row c.self.invariant.held (rise-of same_time i.limit i.stamps i.next i.rows.numbers i.rows.columns.items i.spent c.self.invariant)
    (slice_get_within i.rows.numbers position c.args.row there) (get_or_from_slice_get i.rows.numbers position c.args.row 0 there) in
    subst (λ (u : Seen). c.drop_row.new.changes.items ≡ after_each c.args.changes.now.items (sums u.same_time (drops {B = Body} (ranks_of c.args.row u.shelf.kept)) u.shelf.columns)) c.self.view_is
    (c.in-Ok.ensures.changes ∙ ap (λ (xs : List Sum). after_each c.args.changes.now.items xs) (drop_sums-are same_time i.rows.numbers i.rows.columns.items position c.args.row gone))

pub returns-in-Err-clause-spent : goal.returns-in-Err-clause-spent
returns-in-Err-clause-spent c =
    let i = c.self.inside in
    spent-seen (is_same_time i.mode) i.limit i.stamps i.next i.rows.numbers i.rows.columns.items i.spent c.drop_row.new.self.numbers c.drop_row.new.self.columns.items c.in-Err.ensures.no_numbers c.in-Err.ensures.no_columns
    ∙ ap spent_table c.self.view_is
