use Rattle.std.proofs.Common.{sym, ◌∙◌, arith}
use Rattle.std.proofs.lemmas.List.{take_rest}
use Rattle.walk_proto.specs.Spelling.{asked_bytes}
use Rattle.walk_proto.proofs.QueryParts.{query_parts}
use Rattle.walk_proto.proofs.reading.asked_of.Goals as goal

pub returns-clause-spelled : goal.returns-clause-spelled
unfolding asked_bytes
returns-clause-spelled c =
    let b = c.args.bytes.now in
    query_parts b _ _ _ 6 (omega (arith, c.requires.shape.long)) c.requires.kind c.limit_of-limit.ensures.spelled c.in_ok-columns.ensures (sym (take_rest b 24) ∙ c.in_ok-conds.ensures)
