use Rattle.std.proofs.Common.{sym, ◌∙◌}
use Rattle.walk_proto.specs.Kinds.{all_kinds, reply_kinds}
use Rattle.walk_proto.proofs.Cuts.{same_cut, no_kind, no_bytes, replies_last, no_reply_below}
use Rattle.walk_proto.proofs.faults.reply_cut.Goals as goal

pub returns-in_default-clause-first_fault : goal.returns-in_default-clause-first_fault
returns-in_default-clause-first_fault c = sym (no_bytes reply_kinds c.args.bytes.now c.in_default.len_below)

pub returns-then-first-lt9-clause-first_fault : goal.returns-then-first-lt9-clause-first_fault
returns-then-first-lt9-clause-first_fault c = sym (no_kind reply_kinds c.args.bytes.now c.in-len1-up.len_at_least (no_reply_below _ c.if-first-lt9.true))

pub returns-clause-first_fault : goal.returns-clause-first_fault
returns-clause-first_fault c = c.first_cut.ensures.first_fault ∙ same_cut all_kinds reply_kinds c.args.bytes.now (replies_last _ c.if-first-lt9.false)
