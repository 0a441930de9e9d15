use Rattle.std.proofs.Common.{length, ap, sym, ◌∙◌}
use Rattle.versions.specs.Databases.{Database}
use Rattle.server_conn.specs.Inside.{shelves_in}
use Rattle.server_conn.proofs.Shelves.{length-laid}
use Rattle.server_conn.proofs.txn.Txn.tables.Goals as goal

pub returns : goal.returns
unfolding shelves_in
returns c = c.tables.ensures.value ∙ ap (λ (d : Database). length d.shelves) c.version.ensures ∙ sym (length-laid c.args.self.now.own.items c.args.self.now.base.shelves)
