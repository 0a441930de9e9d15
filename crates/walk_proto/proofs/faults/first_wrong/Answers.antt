use Rattle.std.proofs.Common.{sym, ap, ◌∙◌}
use Rattle.walk_proto.specs.Faults.{fields_by, first_wrong}
use Rattle.walk_proto.proofs.FirstWrong.{other_fields}
use Rattle.walk_proto.proofs.faults.first_wrong.Goals as goal

pub returns-then-kind-eq3 : goal.returns-then-kind-eq3
unfolding fields_by
returns-then-kind-eq3 c = c.wrong_bit.ensures ∙ ap (λ n. first_wrong (fields_by n c.args.bytes.now)) (sym c.if-kind-eq3.true)

pub returns-then-kind-eq5 : goal.returns-then-kind-eq5
unfolding fields_by
returns-then-kind-eq5 c = c.wrong_insert.ensures ∙ ap (λ n. first_wrong (fields_by n c.args.bytes.now)) (sym c.if-kind-eq5.true)

pub returns-then-kind-eq6 : goal.returns-then-kind-eq6
unfolding fields_by
returns-then-kind-eq6 c = c.wrong_query.ensures ∙ ap (λ n. first_wrong (fields_by n c.args.bytes.now)) (sym c.if-kind-eq6.true)

pub returns-then-kind-eq7 : goal.returns-then-kind-eq7
unfolding fields_by
returns-then-kind-eq7 c = c.wrong_bit-then-kind-eq7.ensures ∙ ap (λ n. first_wrong (fields_by n c.args.bytes.now)) (sym c.if-kind-eq7.true)

pub returns-then-kind-eq11 : goal.returns-then-kind-eq11
unfolding fields_by
returns-then-kind-eq11 c = c.wrong_rows.ensures ∙ ap (λ n. first_wrong (fields_by n c.args.bytes.now)) (sym c.if-kind-eq11.true)

pub returns-then-kind-eq13 : goal.returns-then-kind-eq13
unfolding fields_by
returns-then-kind-eq13 c = c.wrong_ended.ensures ∙ ap (λ n. first_wrong (fields_by n c.args.bytes.now)) (sym c.if-kind-eq13.true)

pub returns-then-kind-eq14 : goal.returns-then-kind-eq14
unfolding fields_by
returns-then-kind-eq14 c = c.wrong_no.ensures ∙ ap (λ n. first_wrong (fields_by n c.args.bytes.now)) (sym c.if-kind-eq14.true)

pub returns : goal.returns
unfolding first_wrong
returns c = sym (ap first_wrong (other_fields _ c.args.bytes.now c.if-kind-eq3.false c.if-kind-eq5.false c.if-kind-eq6.false c.if-kind-eq7.false c.if-kind-eq11.false c.if-kind-eq13.false c.if-kind-eq14.false))
