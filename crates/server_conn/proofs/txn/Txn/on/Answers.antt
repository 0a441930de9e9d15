use Rattle.std.proofs.Common.{refl}
use Rattle.server_conn.proofs.Seeing.{new-held, new-txn}
use Rattle.server_conn.proofs.txn.Txn.on.Goals as goal

pub returns-clause-held : goal.returns-clause-held
returns-clause-held c = new-held _ c.new.ensures.items c.new-2.ensures.items c.new-3.ensures.items c.new-4.ensures.items refl

pub returns-clause-txn : goal.returns-clause-txn
returns-clause-txn c = new-txn _ c.requires c.new.ensures.items c.new-2.ensures.items c.new-3.ensures.items c.new-4.ensures.items refl
