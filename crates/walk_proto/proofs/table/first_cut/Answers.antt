use Rattle.std.proofs.Common.{sym, ◌∙◌}
use Rattle.walk_proto.specs.Kinds.{all_kinds}
use Rattle.walk_proto.proofs.Cuts.{no_kind, one_kind, no_bytes, fields_ok}
use Rattle.walk_proto.proofs.table.first_cut.Goals as goal

pub returns-in_default-clause-first_fault : goal.returns-in_default-clause-first_fault
returns-in_default-clause-first_fault c = sym (no_bytes all_kinds c.args.bytes.now c.in_default.len_below)

pub returns-in-None-clause-first_fault : goal.returns-in-None-clause-first_fault
returns-in-None-clause-first_fault c = sym (no_kind all_kinds c.args.bytes.now c.in-len1-up.len_at_least (sym c.in-None.ensures.found))

pub returns-in-Some-clause-first_fault : goal.returns-in-Some-clause-first_fault
returns-in-Some-clause-first_fault c =
    c.cut_within.ensures.first_fault ∙ sym (one_kind all_kinds c.in-Some.kind c.args.bytes.now c.in-len1-up.len_at_least (sym c.in-Some.ensures.found))

pub returns-in-Some-clause-fields : goal.returns-in-Some-clause-fields
returns-in-Some-clause-fields c = fields_ok c.args.bytes.now c.in-Some.kind c.cut_within.result (sym c.in-Some.ensures.found) c.cut_within.ensures.headed
