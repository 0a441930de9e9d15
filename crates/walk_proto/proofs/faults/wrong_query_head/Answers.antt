use Rattle.std.proofs.Common.{◌≡◌, false, nat_lt, sym, ap, drop, ◌∙◌, arith}
use Rattle.std.proofs.lemmas.List.{take_rest}
use Rattle.byteorder.specs.Endian.{big_number}
use Rattle.walk_proto.specs.Rules.{is_wrong_limit}
use Rattle.std.proofs.lemmas.Bool.Decides.{nat_tests}
use Rattle.walk_proto.specs.Faults.{at, query_head_fields}
use Rattle.walk_proto.proofs.FirstWrong.{right7}
use Rattle.walk_proto.proofs.faults.wrong_query_head.Goals as goal

pub returns : goal.returns
unfolding query_head_fields
returns c =
    let verb : nat_lt 4 (at c.args.bytes.now 2) ≡ false = grind (arith, nat_tests) in
    let limit : is_wrong_limit (at c.args.bytes.now 6) (big_number 8 (drop 7 c.args.bytes.now)) ≡ false = ap (λ n. is_wrong_limit (at c.args.bytes.now 6) n) (sym (c.read_u64.ensures ∙ ap (big_number 8) (take_rest c.args.bytes.now 7))) ∙ sym c.if-is_wrong_limit.ensures in
    sym (right7 _ _ _ _ _ _ _ _ _ _ _ _ _ _ verb (sym c.if-is_wrong_target.ensures) (sym c.if-is_wrong_order.ensures) (sym c.if-is_wrong_order_column.ensures) (sym c.if-is_wrong_limited.ensures) limit (sym c.if-is_wrong_query_width.ensures))
