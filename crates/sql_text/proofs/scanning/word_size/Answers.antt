use Rattle.std.proofs.Common.{length, sym, ◌∙◌, arith}
use Rattle.std.proofs.lemmas.List.Sums.{prefix_len_is}
use Rattle.sql_text.specs.Words.{is_word_byte}
use Rattle.sql_text.proofs.scanning.word_size.Goals as goal

pub returns-then-not-is_word_byte-clause-size : goal.returns-then-not-is_word_byte-clause-size
returns-then-not-is_word_byte-clause-size c = sym (prefix_len_is is_word_byte c.args.bytes.now c.loop-i.i 0 (omega arith) c.loop-i.invariant (λ _. sym c.is_word_byte.ensures ∙ c.if-not-is_word_byte.true))

pub returns-clause-size : goal.returns-clause-size
returns-clause-size c = sym (prefix_len_is is_word_byte c.args.bytes.now (length c.args.bytes.now) 0 (omega arith) (λ k h. c.loop-i.invariant k (omega arith)) (λ h. absurd (omega arith)))
