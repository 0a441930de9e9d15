use Rattle.std.proofs.Common.{◌≡◌, ◌<◌, ◌≤◌, ◌∙◌, ap, sym, subst, refl, arith, length, get_or, Some, None}
use Rattle.std.proofs.lemmas.Result.{IfOk-weaker}
use Rattle.enc_table.specs.Seen.{Seen as Table}
use Rattle.versions.specs.Databases.{table_at}
use Rattle.server_conn.specs.Inside.{held_in, shelves_in, IsTableOf, IsTaken, IsSameOwn}
use Rattle.server_conn.proofs.Shelves.{length-laid}
use Rattle.server_conn.proofs.Seeing.{base-within, table-own, found-base, is-taken, ok-holds}
use Rattle.server_conn.proofs.txn.Txn.take_own.Goals as goal

pub make_room-requires : goal.make_room-requires
unfolding shelves_in
make_room-requires c = omega (arith, c.requires.txn.few, c.tables-tables.ensures, length-laid c.args.self.now.own.items c.args.self.now.base.shelves)

pub copy_of-requires : goal.copy_of-requires
copy_of-requires c = base-within c.args.self.now c.args.table.0 c.requires.there

pub returns-in-Some-clause-own : goal.returns-in-Some-clause-own
returns-in-Some-clause-own c =
    table-own c.args.self.now c.args.table.0 c.in-Some.own c.requires.txn (sym (c.make_room.ensures.same.each c.args.table.0) ∙ sym c.in-Some.ensures.taken)

pub returns-in-Some-clause-taken : goal.returns-in-Some-clause-taken
unfolding shelves_in
returns-in-Some-clause-taken c =
    is-taken c.args.self.now _ c.make_room.new.own.items c.args.table.0 (record { base = refl; touched = refl; ops = refl; marks = refl; walk = refl }) c.make_room.ensures.same c.take_at.ensures.left
    (c.in_ok-make_room.ensures.many ∙ c.tables-tables.ensures ∙ length-laid c.args.self.now.own.items c.args.self.now.base.shelves)

pub returns-in-None-clause-own : goal.returns-in-None-clause-own
returns-in-None-clause-own c =
    IfOk-weaker c.copy_of.result (λ (own : Table). own ≡ table_at c.args.self.now.base c.args.table.0) (λ (own : Table). IsTableOf (held_in c.args.self.now) c.args.table.0 own)
    (λ own is. found-base c.args.self.now c.args.self.now.base c.args.table.0 own c.requires.txn refl (base-within c.args.self.now c.args.table.0 c.requires.there) (sym (c.make_room.ensures.same.each c.args.table.0) ∙ sym c.in-None.ensures.taken) is)
    c.copy_of.ensures

pub returns-in-None-clause-taken : goal.returns-in-None-clause-taken
unfolding shelves_in
returns-in-None-clause-taken c =
    ok-holds c.copy_of.result
    (is-taken c.args.self.now _ c.make_room.new.own.items c.args.table.0 (record { base = refl; touched = refl; ops = refl; marks = refl; walk = refl }) c.make_room.ensures.same c.take_at.ensures.left
    (c.in_ok-make_room.ensures.many ∙ c.tables-tables.ensures ∙ length-laid c.args.self.now.own.items c.args.self.now.base.shelves))
