use Rattle.std.proofs.Common.{◌≡◌, ◌<◌, ◌∙◌, ap, sym, subst, refl, List, length, get_or, Option, Some, None, IfSome, IsSome, Bor}
use Rattle.enc_table.specs.Seen.{Seen as Table}
use Rattle.versions.specs.Databases.{Database, table_at}
use Rattle.server_conn.specs.Inside.{held_in, IsTableOf}
use Rattle.server_conn.proofs.Seeing.{some-there, own-within, base-within, within-base, table-own, found-base}
use Rattle.server_conn.proofs.txn.Txn.table.Goals as goal

pub returns-in-Some-clause-there : goal.returns-in-Some-clause-there
returns-in-Some-clause-there c =
    let at : get_or c.args.self.now.own.items c.args.table.0 None ≡ Some c.in-Some.own.now = sym (c.in-Some.ensures ∙ ap (λ (o : List (Option Table)). get_or o c.args.table.0 None) c.as_slice.ensures.value) in
    (λ _. own-within c.args.self.now c.args.table.0 c.in-Some.own.now c.requires at, λ _. refl)

pub returns-in-Some-clause-value : goal.returns-in-Some-clause-value
returns-in-Some-clause-value c =
    let at : get_or c.args.self.now.own.items c.args.table.0 None ≡ Some c.in-Some.own.now = sym (c.in-Some.ensures ∙ ap (λ (o : List (Option Table)). get_or o c.args.table.0 None) c.as_slice.ensures.value) in
    table-own c.args.self.now c.args.table.0 c.in-Some.own.now c.requires at

pub returns-in-None-clause-there : goal.returns-in-None-clause-there
returns-in-None-clause-there c =
    let P = λ (d : Database). c.args.table.0 < length d.shelves in (
      λ some. within-base c.args.self.now c.args.table.0 (subst P c.version.ensures (c.table.ensures.there.0 some)),
      λ there. c.table.ensures.there.1 (subst P (sym c.version.ensures) (base-within c.args.self.now c.args.table.0 there)),
    )

pub returns-in-None-clause-value : goal.returns-in-None-clause-value
returns-in-None-clause-value c =
    let at : get_or c.args.self.now.own.items c.args.table.0 None ≡ None = sym (c.in-None.ensures ∙ ap (λ (o : List (Option Table)). get_or o c.args.table.0 None) c.as_slice.ensures.value) in
    let P = λ (d : Database). c.args.table.0 < length d.shelves in
    some-there c.table.result (λ (found : Bor Table). found.now ≡ table_at c.version.result.now c.args.table.0) (λ (found : Bor Table). IsTableOf (held_in c.args.self.now) c.args.table.0 found.now)
    (λ some found is. found-base c.args.self.now c.version.result.now c.args.table.0 found.now c.requires c.version.ensures (subst P c.version.ensures (c.table.ensures.there.0 some)) at is) c.table.ensures.value
