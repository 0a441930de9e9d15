use Rattle.std.proofs.Common.{length, sym, ◌∙◌, arith}
use Rattle.std.proofs.lemmas.List.Sums.{prefix_len_is}
use Rattle.workload_file.specs.FileLines.{is_inside}
use Rattle.workload_file.proofs.lines.line_size.Goals as goal

pub returns-then-not-is_inside-clause-size : goal.returns-then-not-is_inside-clause-size
returns-then-not-is_inside-clause-size c = sym (prefix_len_is is_inside c.args.bytes.now c.loop-i.i 0 (omega arith) c.loop-i.invariant (λ _. sym c.is_inside.ensures ∙ c.if-not-is_inside.true))

pub returns-clause-size : goal.returns-clause-size
returns-clause-size c = sym (prefix_len_is is_inside c.args.bytes.now (length c.args.bytes.now) 0 (omega arith) (λ k h. c.loop-i.invariant k (omega arith)) (λ h. absurd (omega arith)))
