use Rattle.std.proofs.Common.{◌≡◌, None, sym, subst, ◌∙◌}
use Rattle.walk_proto.specs.Faults.{request_fault}
use Rattle.walk_proto.proofs.FaultlessBytes.{fault_named}
use Rattle.walk_proto.proofs.ShapesOf.{request_shape}
use Rattle.walk_proto.proofs.ReadBack.{same_request}
use Rattle.walk_proto.proofs.SpelledBytes.{request_faultless}
use Rattle.walk_proto.proofs.RulesOf.{request_rules}
use Rattle.walk_proto.proofs.reading.read_request.Goals as goal

pub request_of-requires : goal.request_of-requires
request_of-requires c = request_shape c.args.bytes.now (sym c.in-None.ensures)

pub returns-in-Some-clause-fault : goal.returns-in-Some-clause-fault
unfolding request_fault
returns-in-Some-clause-fault c = sym c.in-Some.ensures ∙ sym (fault_named _ c.args.bytes.now c.in-Some.fault (sym c.in-Some.ensures))

pub returns-in_ok-request_of-in-None-clause-rules : goal.returns-in_ok-request_of-in-None-clause-rules
returns-in_ok-request_of-in-None-clause-rules c = request_rules c.in_ok-request_of-in-None.field-0 (subst (λ b. request_fault b ≡ None) c.in_ok-request_of-in-None.ensures.spelled (sym c.in-None.ensures))

pub returns-in-Some-clause-complete : goal.returns-in-Some-clause-complete
returns-in-Some-clause-complete c r ok fits e =
    let none : request_fault c.args.bytes.now ≡ None = subst (λ b. request_fault b ≡ None) (sym e) (request_faultless r ok) in
    absurd (cc (c.in-Some.ensures))

pub returns-in_ok-request_of-in-None-clause-complete : goal.returns-in_ok-request_of-in-None-clause-complete
returns-in_ok-request_of-in-None-clause-complete c r ok fits e =
    let read = c.in_ok-request_of-in-None.field-0 in
    let spelled = c.in_ok-request_of-in-None.ensures.spelled in
    let rules = request_rules read (subst (λ b. request_fault b ≡ None) spelled (sym c.in-None.ensures)) in
    same_request read r rules ok c.in_ok-request_of-in-None.ensures.fits fits (sym spelled ∙ e)
