use Rattle.std.proofs.Common.{◌≡◌, false, ap, ◌+◌, ◌∙◌, arith}
use Rattle.std.proofs.lemmas.List.{take_rest}
use Rattle.std.proofs.lemmas.Bool.Decides.{nat_tests}
use Rattle.walk_proto.specs.Faults.{at, first_wrong, op_fields}
use Rattle.walk_proto.specs.Rules.{is_wrong_op}
use Rattle.walk_proto.proofs.FirstWrong.{op_step}
use Rattle.walk_proto.proofs.faults.+wrong_op.Goals as goal

pub returns-else-op-gt5 : goal.returns-else-op-gt5
returns-else-op-gt5 t c =
    let right : is_wrong_op (at c.args.conds.now 1) ≡ false = grind (arith, nat_tests) in
    rw (op_step c.args.offset c.args.conds.now c.in-len2-up.len_at_least, right) (c.wrong_op.ensures ∙ ap (λ r. first_wrong (op_fields (c.args.offset + 2) r)) (take_rest c.args.conds.now 2))
