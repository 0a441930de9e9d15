-- The request that the bytes spell is served; else their first fault is told, or memory did not suffice.
use Rattle.std.proofs.Common.{◌∙◌, Ok, ap, sym}
use Rattle.server_conn.proofs.Calls.{not-both, nor-both, spent-is, read-is, read-not, served-as, conn-as, no-fault, some-handed, fault-handed, fault-told}
use Rattle.server_conn.proofs.conn.Conn.serve_bytes.Goals as goal

pub returns-then-self-clause-fault : goal.returns-then-self-clause-fault
returns-then-self-clause-fault c = λ fresh stop said fault says. absurd (not-both c.self.inside.stage c.self.inside.spent c.args.self.now c.self.view_is c.if-self.true fresh)

pub returns-then-self-clause-spent : goal.returns-then-self-clause-spent
returns-then-self-clause-spent c = spent-is c.self.inside.stage c.self.inside.spent c.args.self.now c.self.view_is c.self.invariant c.if-self.true

pub serve-requires : goal.serve-requires
serve-requires c = c.in-Ok.ensures.rules

pub returns-in-Ok-clause-served : goal.returns-in-Ok-clause-served
returns-in-Ok-clause-served c = λ r is fits bytes.
    served-as r c.in-Ok.request c.args.self.now.conn c.serve.result (read-is r c.in-Ok.request c.read_request.result c.in-Ok.is (c.read_request.ensures.complete r is fits bytes)) c.serve.ensures.served

pub returns-in-Ok-clause-conn : goal.returns-in-Ok-clause-conn
returns-in-Ok-clause-conn c = λ r is fits bytes.
    conn-as r c.in-Ok.request c.args.self.now.conn c.serve.new.self c.serve.result (read-is r c.in-Ok.request c.read_request.result c.in-Ok.is (c.read_request.ensures.complete r is fits bytes)) c.serve.ensures.conn

pub returns-in-Ok-clause-fault : goal.returns-in-Ok-clause-fault
returns-in-Ok-clause-fault c = λ fresh stop said fault says. absurd (no-fault _ stop c.in-Ok.ensures.faultless fault)

pub returns-in-Ok-clause-unchanged : goal.returns-in-Ok-clause-unchanged
returns-in-Ok-clause-unchanged c = λ stop fault. absurd (no-fault _ stop c.in-Ok.ensures.faultless fault)

pub returns-in-Ok-clause-spent : goal.returns-in-Ok-clause-spent
returns-in-Ok-clause-spent c = c.serve.ensures.spent

pub returns-in-Ok-clause-stays_spent : goal.returns-in-Ok-clause-stays_spent
returns-in-Ok-clause-stays_spent c = c.serve.ensures.stays_spent

pub returns-in-Some-clause-served : goal.returns-in-Some-clause-served
returns-in-Some-clause-served c = λ r is fits bytes.
    absurd (some-handed c.in-Err.stop c.wire_fault.result c.in-Some.served c.in-Some.is c.wire_fault.ensures (read-not r c.in-Err.stop c.read_request.result c.in-Err.is (c.read_request.ensures.complete r is fits bytes)))

pub returns-in-Some-clause-conn : goal.returns-in-Some-clause-conn
returns-in-Some-clause-conn c = λ r is fits bytes.
    absurd (some-handed c.in-Err.stop c.wire_fault.result c.in-Some.served c.in-Some.is c.wire_fault.ensures (read-not r c.in-Err.stop c.read_request.result c.in-Err.is (c.read_request.ensures.complete r is fits bytes)))

pub returns-in-Some-clause-fault : goal.returns-in-Some-clause-fault
returns-in-Some-clause-fault c = λ fresh stop said fault says.
    ap Ok (fault-told c.in-Err.stop stop said c.wire_fault.result c.in-Some.served c.in-Some.is c.wire_fault.ensures (sym c.in-Err.ensures.fault ∙ fault) says)

pub returns-in-Some-clause-stays_spent : goal.returns-in-Some-clause-stays_spent
returns-in-Some-clause-stays_spent c = λ spent. absurd (nor-both c.self.inside.stage c.self.inside.spent c.args.self.now c.self.view_is c.if-self.false spent)

pub returns-in-None-clause-fault : goal.returns-in-None-clause-fault
returns-in-None-clause-fault c = λ fresh stop said fault says. absurd (fault-handed c.in-Err.stop stop c.wire_fault.result c.in-None.is c.wire_fault.ensures (sym c.in-Err.ensures.fault ∙ fault))

pub returns-in-None-clause-unchanged : goal.returns-in-None-clause-unchanged
returns-in-None-clause-unchanged c = λ stop fault. absurd (fault-handed c.in-Err.stop stop c.wire_fault.result c.in-None.is c.wire_fault.ensures (sym c.in-Err.ensures.fault ∙ fault))

pub returns-in-None-clause-spent : goal.returns-in-None-clause-spent
returns-in-None-clause-spent c = c.lose.ensures
