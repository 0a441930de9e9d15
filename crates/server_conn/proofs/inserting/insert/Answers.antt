-- What no check refuses can be done.
use Rattle.std.proofs.Common.{◌∙◌, ◌<◌, ◌^◌, ℕ, List, length, map, ap, sym, subst, arith, refl}
use Rattle.mope_base.specs.declared.body.Body.{Body}
use Rattle.tree_model.specs.declared.Place.{Place}
use Rattle.table_model.specs.Stores.{Shelf}
use Rattle.table_model.specs.Fitting.{AllPlaced}
use Rattle.server_conn.specs.declared.txn.Mark.{Mark as Placed}
use Rattle.server_conn.specs.Inside.{shelves_in, held_in}
use Rattle.server_conn.proofs.Seeing.{base-within}
use Rattle.server_conn.proofs.Rows.{may-insert, row-done, places-given, may-place, may-widen, may-room, may-number}
use Rattle.server_conn.proofs.inserting.insert.Goals as goal

pub take_own-requires-clause-txn : goal.take_own-requires-clause-txn
take_own-requires-clause-txn c = c.requires.txn

pub take_own-requires-clause-there : goal.take_own-requires-clause-there
take_own-requires-clause-there c = (may-insert c.args.txn.now c.args.table c.args.bodies.now c.requires.txn c.requires.checked).there

pub with_row-requires-clause-placed : goal.with_row-requires-clause-placed
with_row-requires-clause-placed c =
    may-place c.args.txn.now c.args.table c.args.bodies.now c.in_ok-before.before c.as_slice-2.result.now (may-insert c.args.txn.now c.args.table c.args.bodies.now c.requires.txn c.requires.checked) c.in_ok-before.ensures.own (places-given c.args.txn.now c.as_slice.result.now c.in_ok-places.places.items c.as_slice-2.result.now c.as_slice.ensures.value c.in_ok-places.ensures c.as_slice-2.ensures.value)

pub with_row-requires-clause-wide : goal.with_row-requires-clause-wide
with_row-requires-clause-wide c =
    may-widen c.args.txn.now c.args.table c.args.bodies.now c.in_ok-before.before c.as_slice-3.result.now (may-insert c.args.txn.now c.args.table c.args.bodies.now c.requires.txn c.requires.checked) c.in_ok-before.ensures.own (c.as_slice-3.ensures.value ∙ c.in_ok-copies.ensures)

pub with_row-requires-clause-room : goal.with_row-requires-clause-room
with_row-requires-clause-room c = may-room c.args.txn.now c.args.table c.args.bodies.now c.in_ok-before.before (may-insert c.args.txn.now c.args.table c.args.bodies.now c.requires.txn c.requires.checked) c.in_ok-before.ensures.own

pub with_row-requires-clause-number : goal.with_row-requires-clause-number
with_row-requires-clause-number c = may-number c.args.txn.now c.args.table c.args.bodies.now c.in_ok-before.before (may-insert c.args.txn.now c.args.table c.args.bodies.now c.requires.txn c.requires.checked) c.in_ok-before.ensures.own

pub put_own-requires : goal.put_own-requires
put_own-requires c =
    let may = may-insert c.args.txn.now c.args.table c.args.bodies.now c.requires.txn c.requires.checked in
    omega (arith, c.in_ok-before.ensures.taken.many, base-within c.args.txn.now c.args.table.0 may.there)

pub returns-clause-step : goal.returns-clause-step
returns-clause-step c =
    let may = may-insert c.args.txn.now c.args.table c.args.bodies.now c.requires.txn c.requires.checked in
    let placed = places-given c.args.txn.now c.as_slice.result.now c.in_ok-places.places.items c.as_slice-2.result.now c.as_slice.ensures.value c.in_ok-places.ensures c.as_slice-2.ensures.value in
    let copied = c.as_slice-3.ensures.value ∙ c.in_ok-copies.ensures in
    let noted_placed = places-given c.args.txn.now c.as_slice.result.now c.in_ok-places.places.items c.from_vec.result c.as_slice.ensures.value c.in_ok-places.ensures c.from_vec.ensures in
    let noted_copied = c.from_vec-2.ensures ∙ c.in_ok-copies.ensures in
    (row-done c.args.txn.now c.take_own.new.self c.put_own.new.self c.note.new.txn c.args.table c.args.bodies.now c.in_ok-before.before c.in_ok-after.after c.as_slice-2.result.now c.from_vec.result c.as_slice-3.result.now c.from_vec-2.result c.requires.txn may c.in_ok-before.ensures.own c.in_ok-before.ensures.taken
    placed copied c.in_ok-after.ensures.table c.in_ok-after.ensures.sound c.put_own.ensures.own c.put_own.ensures.rest noted_placed noted_copied c.in_ok-note.ensures).step

pub returns-clause-txn : goal.returns-clause-txn
returns-clause-txn c =
    let may = may-insert c.args.txn.now c.args.table c.args.bodies.now c.requires.txn c.requires.checked in
    let placed = places-given c.args.txn.now c.as_slice.result.now c.in_ok-places.places.items c.as_slice-2.result.now c.as_slice.ensures.value c.in_ok-places.ensures c.as_slice-2.ensures.value in
    let copied = c.as_slice-3.ensures.value ∙ c.in_ok-copies.ensures in
    let noted_placed = places-given c.args.txn.now c.as_slice.result.now c.in_ok-places.places.items c.from_vec.result c.as_slice.ensures.value c.in_ok-places.ensures c.from_vec.ensures in
    let noted_copied = c.from_vec-2.ensures ∙ c.in_ok-copies.ensures in
    (row-done c.args.txn.now c.take_own.new.self c.put_own.new.self c.note.new.txn c.args.table c.args.bodies.now c.in_ok-before.before c.in_ok-after.after c.as_slice-2.result.now c.from_vec.result c.as_slice-3.result.now c.from_vec-2.result c.requires.txn may c.in_ok-before.ensures.own c.in_ok-before.ensures.taken
    placed copied c.in_ok-after.ensures.table c.in_ok-after.ensures.sound c.put_own.ensures.own c.put_own.ensures.rest noted_placed noted_copied c.in_ok-note.ensures).txn
