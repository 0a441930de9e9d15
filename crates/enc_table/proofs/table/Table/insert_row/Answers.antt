-- One row more, or all is gone.
use Rattle.std.proofs.Common.{◌≡◌, ℕ, ◌+◌, ◌<◌, ◌^◌, Bool, List, [], ◌∷◌, length, ap, ◌∙◌, sym, subst, arith}
use Rattle.mope_base.specs.Modes.{is_same_time}
use Rattle.path_code.specs.Sums.{Sum}
use Rattle.table_model.specs.Steps.{adds}
use Rattle.table_model.specs.Changes.{insert_row}
use Rattle.table_model.specs.Fitting.{AllPlaced}
use Rattle.enc_table.specs.Seen.{Seen, spent_table, with_shelf}
use Rattle.enc_table.specs.Stored.{shelf_in}
use Rattle.enc_table.specs.Sums.{sums}
use Rattle.enc_table.specs.Fields.{seen_in}
use Rattle.enc_table.proofs.TableSeen.{spent-fields, spent-seen, width-seen, many-seen, next-seen, length-placed, trees-placed, fit-adds, AddsRow, adds-row}
use Rattle.enc_table.proofs.TableOpen.{spent-stays, IsOpen, open-of}
use Rattle.enc_table.proofs.table.Table.insert_row.Goals as goal

pub returns-then-self-clause-spent : goal.returns-then-self-clause-spent
returns-then-self-clause-spent c = λ _. spent-stays _ _ _ _ _ _ _ _ c.self.invariant c.self.view_is c.if-self.true

pub add_row-requires-clause-placed : goal.add_row-requires-clause-placed
add_row-requires-clause-placed c = length-placed c.args.self.now.shelf.columns c.args.places.now c.requires.placed ∙ sym (width-seen _ _ _ _ _ _ _ _ c.self.view_is)

pub add_row-requires-clause-wide : goal.add_row-requires-clause-wide
add_row-requires-clause-wide c = c.requires.wide ∙ sym (width-seen _ _ _ _ _ _ _ _ c.self.view_is)

pub add_row-requires-clause-fits : goal.add_row-requires-clause-fits
add_row-requires-clause-fits c =
    let i = c.self.inside in
    fit-adds (is_same_time i.mode) i.limit i.next i.rows.numbers i.rows.columns.items c.args.places.now c.self.invariant.table.sound c.self.invariant.table.low c.self.invariant.held
    (trees-placed i.rows.numbers i.next i.rows.columns.items c.args.places.now (subst (λ (u : Seen). AllPlaced u.shelf.columns c.args.places.now) (sym c.self.view_is) c.requires.placed))

pub overflow_add-self : goal.overflow_add-self
overflow_add-self c =
    let next : c.self.inside.next ≡ c.args.self.now.shelf.next = next-seen _ _ _ _ _ _ _ _ c.self.view_is in
    omega (arith, next, (open-of c.args.self.now c.full.result c.full.ensures c.if-full.false).below)

pub invariant_of-self : goal.invariant_of-self
invariant_of-self c =
    let i = c.self.inside in
    let t = c.args.self.now in
    let e = c.self.view_is in
    let same_time = is_same_time i.mode in
    let many : length i.rows.numbers ≡ length t.shelf.kept = many-seen _ _ _ _ _ _ _ _ c.self.invariant e in
    let next : i.next ≡ t.shelf.next = next-seen _ _ _ _ _ _ _ _ e in
    let spare = open-of t c.full.result c.full.ensures c.if-full.false in
    let limit : i.limit ≡ t.limit = ap (λ (u : Seen). u.limit) e in
    (adds-row same_time i.limit i.stamps i.next i.rows.numbers i.rows.columns.items i.spent c.args.places.now c.args.bodies.now c.add_row.new.self.numbers c.add_row.new.self.columns.items c.self.invariant c.if-self.false
    (subst (λ (u : Seen). AllPlaced u.shelf.columns c.args.places.now) (sym e) c.requires.placed) (subst (λ (u : Seen). length c.args.bodies.now ≡ length u.shelf.columns) (sym e) c.requires.wide)
    (omega (arith, many, limit, spare.few)) (omega (arith, next, spare.below))
    c.in-Ok.ensures.numbers c.add_row.ensures.many (c.in-Ok.ensures.columns same_time)).fields

pub invariant_of-self-in-Err : goal.invariant_of-self-in-Err
invariant_of-self-in-Err c =
    let i = c.self.inside in
    spent-fields (is_same_time i.mode) i.limit i.stamps i.next i.rows.numbers i.rows.columns.items i.spent c.add_row.new.self.numbers c.add_row.new.self.columns.items c.self.invariant c.in-Err.ensures.no_numbers c.in-Err.ensures.no_columns

pub returns-in-Ok-clause-table : goal.returns-in-Ok-clause-table
returns-in-Ok-clause-table c =
    let i = c.self.inside in
    let t = c.args.self.now in
    let e = c.self.view_is in
    let same_time = is_same_time i.mode in
    let many : length i.rows.numbers ≡ length t.shelf.kept = many-seen _ _ _ _ _ _ _ _ c.self.invariant e in
    let next : i.next ≡ t.shelf.next = next-seen _ _ _ _ _ _ _ _ e in
    let spare = open-of t c.full.result c.full.ensures c.if-full.false in
    let limit : i.limit ≡ t.limit = ap (λ (u : Seen). u.limit) e in
    subst (λ (u : Seen). seen_in same_time i.limit i.stamps (i.next + 1) c.add_row.new.self.numbers c.add_row.new.self.columns.items i.spent ≡ with_shelf (insert_row u.same_time c.args.places.now c.args.bodies.now u.shelf) u) e
    (adds-row same_time i.limit i.stamps i.next i.rows.numbers i.rows.columns.items i.spent c.args.places.now c.args.bodies.now c.add_row.new.self.numbers c.add_row.new.self.columns.items c.self.invariant c.if-self.false
    (subst (λ (u : Seen). AllPlaced u.shelf.columns c.args.places.now) (sym e) c.requires.placed) (subst (λ (u : Seen). length c.args.bodies.now ≡ length u.shelf.columns) (sym e) c.requires.wide)
    (omega (arith, many, limit, spare.few)) (omega (arith, next, spare.below))
    c.in-Ok.ensures.numbers c.add_row.ensures.many (c.in-Ok.ensures.columns same_time)).seen

pub returns-in-Ok-clause-changes : goal.returns-in-Ok-clause-changes
unfolding shelf_in
returns-in-Ok-clause-changes c =
    subst (λ (u : Seen). c.in-Ok.changes ≡ sums u.same_time (adds c.args.places.now c.args.bodies.now) u.shelf.columns) c.self.view_is (c.in-Ok.ensures.changes (is_same_time c.self.inside.mode))

pub returns-in-Err-clause-spent : goal.returns-in-Err-clause-spent
returns-in-Err-clause-spent c = λ _.
    let i = c.self.inside in
    spent-seen (is_same_time i.mode) i.limit i.stamps i.next i.rows.numbers i.rows.columns.items i.spent c.add_row.new.self.numbers c.add_row.new.self.columns.items c.in-Err.ensures.no_numbers c.in-Err.ensures.no_columns
    ∙ ap spent_table c.self.view_is
