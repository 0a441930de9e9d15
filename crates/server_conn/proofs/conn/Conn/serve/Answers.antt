-- The stage is taken out, and what comes of the request is put back.
use Rattle.std.proofs.Common.{sym}
use Rattle.server_conn.proofs.Calls.{not-both, nor-both, conn-fresh, conn-idle, taken-view, serve-served, serve-conn, spent-is, no-err}
use Rattle.server_conn.proofs.Staged.{same-stage}
use Rattle.server_conn.proofs.conn.Conn.serve.Goals as goal

pub returns-then-self-clause-spent : goal.returns-then-self-clause-spent
returns-then-self-clause-spent c = spent-is c.self.inside.stage c.self.inside.spent c.args.self.now c.self.view_is c.self.invariant c.if-self.true

pub returns-then-self-clause-walks : goal.returns-then-self-clause-walks
returns-then-self-clause-walks c = λ fresh. absurd (not-both c.self.inside.stage c.self.inside.spent c.args.self.now c.self.view_is c.if-self.true fresh)

pub serve_stage-requires-clause-stage : goal.serve_stage-requires-clause-stage
serve_stage-requires-clause-stage c = same-stage c.self.inside.stage c.replace-stage.result (sym c.replace-stage.ensures.value) c.self.invariant.stage_is

pub serve_stage-requires-clause-rules : goal.serve_stage-requires-clause-rules
serve_stage-requires-clause-rules c = c.requires

pub invariant_of-self : goal.invariant_of-self
invariant_of-self c = conn-fresh c.in-Ok.next c.self.inside.spent c.in-Ok.ensures.stage c.if-self.false

pub invariant_of-self-in-Err : goal.invariant_of-self-in-Err
invariant_of-self-in-Err c = conn-idle c.replace-stage.new.dest c.self.inside.spent c.replace-stage.ensures.after c.if-self.false

pub returns-in-Ok-clause-served : goal.returns-in-Ok-clause-served
returns-in-Ok-clause-served c =
    let view = taken-view c.self.inside.stage c.replace-stage.result c.self.inside.spent c.args.self.now c.replace-stage.ensures.value c.self.view_is in
    serve-served c.replace-stage.result c.self.inside.spent c.args.self.now c.args.request c.in-Ok.served view c.in-Ok.ensures.served

pub returns-in-Ok-clause-conn : goal.returns-in-Ok-clause-conn
returns-in-Ok-clause-conn c =
    let view = taken-view c.self.inside.stage c.replace-stage.result c.self.inside.spent c.args.self.now c.replace-stage.ensures.value c.self.view_is in
    serve-conn c.replace-stage.result c.in-Ok.next c.self.inside.spent c.args.self.now c.args.request view c.if-self.false c.in-Ok.ensures.conn

pub returns-in-Ok-clause-stays_spent : goal.returns-in-Ok-clause-stays_spent
returns-in-Ok-clause-stays_spent c = λ spent. absurd (nor-both c.self.inside.stage c.self.inside.spent c.args.self.now c.self.view_is c.if-self.false spent)

pub returns-in-Err-clause-spent : goal.returns-in-Err-clause-spent
returns-in-Err-clause-spent c = c.lose.ensures

pub returns-in-Err-clause-walks : goal.returns-in-Err-clause-walks
returns-in-Err-clause-walks c = λ fresh step. absurd (no-err c.serve_stage.result _ c.serve_stage.ensures.walks c.in-Err.is step)
