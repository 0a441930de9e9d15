-- The transaction at its begin is put in.
use Rattle.std.proofs.Common.{◌∙◌, ap, subst}
use Rattle.versions.specs.Databases.{Database, IsDatabase}
use Rattle.server_conn.specs.declared.stage.Stage.TheVariants as stage
use Rattle.server_conn.specs.Inside.{IsStage}
use Rattle.server_conn.proofs.Calls.{conn-fresh, begins-fresh, began-step, asked-begins}
use Rattle.server_conn.proofs.conn.Conn.began.Goals as goal

pub on-requires : goal.on-requires
on-requires c = subst IsDatabase c.version.ensures c.number-number.ensures.database

pub invariant_of-self : goal.invariant_of-self
unfolding IsStage
invariant_of-self c = conn-fresh (stage.Holds c.on.result) c.self.inside.spent c.on.ensures.txn (begins-fresh c.self.inside.stage c.self.inside.spent c.args.self.now c.self.view_is c.self.invariant c.requires)

pub returns-clause-request : goal.returns-clause-request
returns-clause-request c = asked-begins c.args.self.now.conn c.requires

pub returns-clause-step : goal.returns-clause-step
returns-clause-step c = began-step c.on.result c.args.snapshot c.number-number.result (c.number-number.ensures.value ∙ ap (λ (d : Database). d.number) c.version.ensures) c.on.ensures.held

pub returns-clause-fresh : goal.returns-clause-fresh
returns-clause-fresh c = begins-fresh c.self.inside.stage c.self.inside.spent c.args.self.now c.self.view_is c.self.invariant c.requires
