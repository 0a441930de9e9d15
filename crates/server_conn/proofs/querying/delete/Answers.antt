-- Rows that are there can be taken out.
use Rattle.std.proofs.Common.{◌∙◌, ◌<◌, ℕ, List, ap, sym, subst, arith, refl}
use Rattle.mope_base.specs.declared.body.Body.{Body}
use Rattle.tree_model.specs.Places.{IsIncreasing}
use Rattle.table_model.specs.Stores.{Shelf}
use Rattle.table_model.specs.Changes.{delete_rows}
use Rattle.table_model.specs.Fitting.{AllAmong}
use Rattle.table_model.specs.Soundness.{kept_numbers}
use Rattle.enc_table.specs.Seen.{with_shelf}
use Rattle.server_conn.specs.Inside.{shelves_in, held_in}
use Rattle.server_conn.proofs.Seeing.{base-within}
use Rattle.server_conn.proofs.Taking.{MayTake, rows-go, shelves-there}
use Rattle.server_conn.proofs.querying.delete.Goals as goal

pub take_own-requires-clause-txn : goal.take_own-requires-clause-txn
take_own-requires-clause-txn c = c.requires.txn

pub take_own-requires-clause-there : goal.take_own-requires-clause-there
take_own-requires-clause-there c = shelves-there c.args.txn.now c.args.table c.requires.there

pub without_rows-requires-clause-rise : goal.without_rows-requires-clause-rise
without_rows-requires-clause-rise c = subst IsIncreasing (sym c.as_slice.ensures) c.requires.rise

pub without_rows-requires-clause-live : goal.without_rows-requires-clause-live
without_rows-requires-clause-live c =
    subst (λ (s : Shelf Body). AllAmong (kept_numbers s.kept) c.as_slice.result.now) (sym c.in_ok-before.ensures.own.shelf_is)
    (subst (AllAmong _) (sym c.as_slice.ensures) c.requires.live)

pub put_own-requires : goal.put_own-requires
put_own-requires c = omega (arith, c.in_ok-before.ensures.taken.many, base-within c.args.txn.now c.args.table.0 (shelves-there c.args.txn.now c.args.table c.requires.there))

pub same-numbers : goal.same-numbers
same-numbers c = refl

pub returns-clause-held : goal.returns-clause-held
returns-clause-held c =
    let may : MayTake (held_in c.args.txn.now) c.args.table c.args.numbers = record { there = c.requires.there; some = c.requires.some; rise = c.requires.rise; live = c.requires.live } in
    let is = c.in_ok-after.ensures.table ∙ ap (λ (ns : List ℕ). with_shelf (delete_rows c.in_ok-before.before.same_time ns c.in_ok-before.before.shelf) c.in_ok-before.before) c.as_slice.ensures in
    (rows-go c.args.txn.now c.take_own.new.self c.put_own.new.self c.note.new.txn c.args.table c.args.numbers c.in_ok-before.before c.in_ok-after.after c.requires.txn c.requires.closed may c.in_ok-before.ensures.own c.in_ok-before.ensures.taken
    is c.in_ok-after.ensures.sound c.put_own.ensures.own c.put_own.ensures.rest c.in_ok-note.ensures).held

pub returns-clause-txn : goal.returns-clause-txn
returns-clause-txn c =
    let may : MayTake (held_in c.args.txn.now) c.args.table c.args.numbers = record { there = c.requires.there; some = c.requires.some; rise = c.requires.rise; live = c.requires.live } in
    let is = c.in_ok-after.ensures.table ∙ ap (λ (ns : List ℕ). with_shelf (delete_rows c.in_ok-before.before.same_time ns c.in_ok-before.before.shelf) c.in_ok-before.before) c.as_slice.ensures in
    (rows-go c.args.txn.now c.take_own.new.self c.put_own.new.self c.note.new.txn c.args.table c.args.numbers c.in_ok-before.before c.in_ok-after.after c.requires.txn c.requires.closed may c.in_ok-before.ensures.own c.in_ok-before.ensures.taken
    is c.in_ok-after.ensures.sound c.put_own.ensures.own c.put_own.ensures.rest c.in_ok-note.ensures).txn
