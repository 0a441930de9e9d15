use Rattle.std.proofs.Common.{◌≡◌, get_or, sym, ◌∙◌, subst}
use Rattle.versions.specs.declared.op.Op.{Op}
use Rattle.versions.specs.declared.op.Op.TheVariants.{Insert, Delete}
use Rattle.versions.specs.Operations.{op_table, rank_op}
use Rattle.versions.proofs.DraftOps.{InsertAsks, DeleteAsks, insert-asks, delete-asks, elsewhere-stays}
use Rattle.versions.proofs.draft.apply_op.Goals as goal

inserting : (c : goal.After-as_slice-in-Insert) → InsertAsks c.args.version.now c.args.table.0 c.args.ops.now c.args.at c.in-Insert.named c.in-Insert.places c.in-Insert.bodies c.args.draft.now.table c.args.draft.now.log.items
inserting c =
    insert-asks c.args.version.now c.args.table.0 c.args.ops.now c.args.at c.in-Insert.named c.in-Insert.places c.in-Insert.bodies c.args.draft.now.table c.args.draft.now.log.items
    (record { is = c.tables-database.ensures.database; fit = c.requires.fit; there = c.requires.there; within = c.requires.within; names = subst (λ (o : Op). o ≡ get_or c.args.ops.now c.args.at o) c.in-Insert.is c.index-ops-at.is; draft = c.requires.draft })
    (sym c.eq.ensures ∙ c.if-eq.true)

deleting : (c : goal.After-as_slice-in-Delete) → DeleteAsks c.args.version.now c.args.table.0 c.args.ops.now c.args.at c.in-Delete.rows c.args.draft.now.table c.args.draft.now.log.items
deleting c =
    delete-asks c.args.version.now c.args.table.0 c.args.ops.now c.args.at c.in-Delete.named c.in-Delete.rows c.args.draft.now.table c.args.draft.now.log.items
    (record { is = c.tables-database.ensures.database; fit = c.requires.fit; there = c.requires.there; within = c.requires.within; names = subst (λ (o : Op). o ≡ get_or c.args.ops.now c.args.at o) c.in-Delete.is c.index-ops-at.is; draft = c.requires.draft })
    (sym c.if-eq-2.ensures)

pub insert-requires-clause-placed : goal.insert-requires-clause-placed
insert-requires-clause-placed c = rw c.as_slice.ensures (inserting c).placed

pub insert-requires-clause-wide : goal.insert-requires-clause-wide
insert-requires-clause-wide c = rw c.as_slice-in-Insert.ensures (inserting c).wide

pub insert-requires-clause-room : goal.insert-requires-clause-room
insert-requires-clause-room c = (inserting c).room

pub insert-requires-clause-number : goal.insert-requires-clause-number
insert-requires-clause-number c = (inserting c).number

pub delete-requires-clause-rise : goal.delete-requires-clause-rise
delete-requires-clause-rise c = rw c.as_slice-in-Delete.ensures (deleting c).rise

pub delete-requires-clause-live : goal.delete-requires-clause-live
delete-requires-clause-live c = rw c.as_slice-in-Delete.ensures (deleting c).live

pub returns-in_default : goal.returns-in_default
unfolding op_table rank_op
returns-in_default c =
    elsewhere-stays c.args.version.now c.args.table.0 c.args.ops.now c.args.at (Insert c.in-Insert.named c.in-Insert.places c.in-Insert.bodies) c.args.draft.now.table c.args.draft.now.log.items
    (record { is = c.tables-database.ensures.database; fit = c.requires.fit; there = c.requires.there; within = c.requires.within; names = subst (λ (o : Op). o ≡ get_or c.args.ops.now c.args.at o) c.in-Insert.is c.index-ops-at.is; draft = c.requires.draft })
    (sym c.eq.ensures ∙ c.if-eq.false)

pub returns-in_default-2 : goal.returns-in_default-2
unfolding op_table rank_op
returns-in_default-2 c =
    elsewhere-stays c.args.version.now c.args.table.0 c.args.ops.now c.args.at (Delete c.in-Delete.named c.in-Delete.rows) c.args.draft.now.table c.args.draft.now.log.items
    (record { is = c.tables-database.ensures.database; fit = c.requires.fit; there = c.requires.there; within = c.requires.within; names = subst (λ (o : Op). o ≡ get_or c.args.ops.now c.args.at o) c.in-Delete.is c.index-ops-at.is; draft = c.requires.draft })
    (sym c.if-eq-2.ensures)

pub returns-in_ok-insert-in-Insert : goal.returns-in_ok-insert-in-Insert
returns-in_ok-insert-in-Insert c =
    let asks = insert-asks c.args.version.now c.args.table.0 c.args.ops.now c.args.at c.in-Insert.named c.in-Insert.places c.in-Insert.bodies c.args.draft.now.table c.args.draft.now.log.items
    (record { is = c.tables-database.ensures.database; fit = c.requires.fit; there = c.requires.there; within = c.requires.within; names = subst (λ (o : Op). o ≡ get_or c.args.ops.now c.args.at o) c.in-Insert.is c.index-ops-at.is; draft = c.requires.draft })
    (sym c.eq.ensures ∙ c.if-eq.true) in
    rw (c.in_ok-insert-in-Insert.ensures.table, c.in_ok-insert-in-Insert.ensures.log, c.as_slice.ensures, c.as_slice-in-Insert.ensures) asks.next

pub returns-in_ok-delete-in-Delete : goal.returns-in_ok-delete-in-Delete
returns-in_ok-delete-in-Delete c =
    let asks = delete-asks c.args.version.now c.args.table.0 c.args.ops.now c.args.at c.in-Delete.named c.in-Delete.rows c.args.draft.now.table c.args.draft.now.log.items
    (record { is = c.tables-database.ensures.database; fit = c.requires.fit; there = c.requires.there; within = c.requires.within; names = subst (λ (o : Op). o ≡ get_or c.args.ops.now c.args.at o) c.in-Delete.is c.index-ops-at.is; draft = c.requires.draft })
    (sym c.if-eq-2.ensures) in
    rw (c.in_ok-delete-in-Delete.ensures.table, c.in_ok-delete-in-Delete.ensures.log, c.as_slice-in-Delete.ensures) asks.next
