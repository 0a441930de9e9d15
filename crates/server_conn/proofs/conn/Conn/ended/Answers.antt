-- The turn that was awaited is that of the stage that is taken out.
use Rattle.std.proofs.Common.{◌∙◌, ap, sym}
use Rattle.server_conn.specs.Handling.{Seen}
use Rattle.server_conn.proofs.Calls.{conn-idle, ends-awaits, ended-asked, ended-step, ends-fresh, can-end}
use Rattle.server_conn.proofs.conn.Conn.ended.Goals as goal

pub unreachable-requires : goal.unreachable-requires
unreachable-requires c =
    let w = ends-awaits c.self.inside.stage c.args.how c.args.table (can-end c.self.inside.stage c.args.self.now.conn c.args.how c.args.table (ap (λ (k : Seen). k.conn) c.self.view_is) c.requires) in
    c.in_default.not-Awaits w.0 w.1 (c.replace.ensures.value ∙ w.2)

pub invariant_of-self : goal.invariant_of-self
invariant_of-self c = conn-idle c.replace.new.dest c.self.inside.spent c.replace.ensures.after (ends-fresh c.self.inside.stage c.self.inside.spent c.args.self.now c.args.how c.args.table c.self.view_is c.self.invariant c.requires)

pub returns-clause-request : goal.returns-clause-request
returns-clause-request c =
    ended-asked c.self.inside.stage _ c.in-Awaits.due c.args.self.now.conn c.request_for-request.result (sym c.replace.ensures.value ∙ c.in-Awaits.is) (ap (λ (k : Seen). k.conn) c.self.view_is) c.request_for-request.ensures

pub returns-clause-step : goal.returns-clause-step
returns-clause-step c = ended-step c.replace.new.dest c.args.how c.args.table c.args.number c.replace.ensures.after

pub returns-clause-fresh : goal.returns-clause-fresh
returns-clause-fresh c = ends-fresh c.self.inside.stage c.self.inside.spent c.args.self.now c.args.how c.args.table c.self.view_is c.self.invariant c.requires
