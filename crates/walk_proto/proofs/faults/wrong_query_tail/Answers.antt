use Rattle.std.proofs.Common.{sym, ◌∙◌}
use Rattle.walk_proto.proofs.FirstWrong.{found_first, found_later}
use Rattle.walk_proto.proofs.faults.wrong_query_tail.Goals as goal

pub returns-in-Some : goal.returns-in-Some
returns-in-Some c = sym (found_first _ _ c.in-Some.offset (sym c.in-Some.ensures))

pub returns-in-None : goal.returns-in-None
returns-in-None c = c.wrong_query_cond.ensures ∙ sym (found_later _ _ (sym c.in-None.ensures))
