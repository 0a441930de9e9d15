use Rattle.std.proofs.Common.{sym, ◌∙◌}
use Rattle.walk_proto.specs.Kinds.{all_kinds, request_kinds}
use Rattle.walk_proto.proofs.Cuts.{same_cut, no_kind, no_bytes, requests_first, no_request_zero, no_request_above}
use Rattle.walk_proto.proofs.faults.request_cut.Goals as goal

pub returns-in_default-clause-first_fault : goal.returns-in_default-clause-first_fault
returns-in_default-clause-first_fault c = sym (no_bytes request_kinds c.args.bytes.now c.in_default.len_below)

pub returns-then-first-lt1-clause-first_fault : goal.returns-then-first-lt1-clause-first_fault
returns-then-first-lt1-clause-first_fault c = sym (no_kind request_kinds c.args.bytes.now c.in-len1-up.len_at_least (no_request_zero _ c.if-first-lt1.true))

pub returns-then-first-gt8-clause-first_fault : goal.returns-then-first-gt8-clause-first_fault
returns-then-first-gt8-clause-first_fault c = sym (no_kind request_kinds c.args.bytes.now c.in-len1-up.len_at_least (no_request_above _ c.if-first-gt8.true))

pub returns-clause-first_fault : goal.returns-clause-first_fault
returns-clause-first_fault c = c.first_cut.ensures.first_fault ∙ same_cut all_kinds request_kinds c.args.bytes.now (requests_first _ c.if-first-lt1.false c.if-first-gt8.false)
