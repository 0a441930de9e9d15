use Rattle.std.proofs.Common.{sym, ◌∙◌}
use Rattle.walk_proto.specs.Faults.{query_fields}
use Rattle.walk_proto.proofs.FirstWrong.{found_first, found_later}
use Rattle.walk_proto.proofs.faults.wrong_query.Goals as goal

pub returns-in-Some : goal.returns-in-Some
unfolding query_fields
returns-in-Some c = sym (found_first _ _ c.in-Some.offset (sym c.in-Some.ensures))

pub returns-in-None : goal.returns-in-None
unfolding query_fields
returns-in-None c = c.wrong_query_tail.ensures ∙ sym (found_later _ _ (sym c.in-None.ensures))
