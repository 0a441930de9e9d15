use Rattle.std.proofs.Common.{◌≡◌, ℕ, ◌<◌, get_or, true}
use Rattle.sql_text.specs.Words.{is_word_byte}
use Rattle.sql_text.proofs.scanning.word_size.Given as goal

abbrev pub invariant-loop-i : goal.invariant-loop-i
invariant-loop-i l = (k : ℕ) → k < l.i → is_word_byte (get_or l.bytes k 0) ≡ true
