use Rattle.std.proofs.Common.{◌≡◌, false, nat_lt, ap, ◌∙◌, arith}
use Rattle.std.proofs.lemmas.Bool.Decides.{nat_tests}
use Rattle.std.proofs.lemmas.List.{take_rest}
use Rattle.walk_proto.specs.Faults.{at, first_wrong, op_fields, query_cond_fields}
use Rattle.walk_proto.proofs.faults.wrong_query_cond.Goals as goal

pub returns : goal.returns
unfolding first_wrong query_cond_fields
returns c =
    let right : nat_lt 8 (at c.args.bytes.now 24) ≡ false = grind (arith, nat_tests) in
    rw right (c.wrong_op.ensures ∙ ap (λ r. first_wrong (op_fields 25 r)) (take_rest c.args.bytes.now 25))
