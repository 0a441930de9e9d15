use Rattle.std.proofs.Common.{refl}
use Rattle.value_cipher.specs.Block.{quarter_round, quarter_round_at, column_round, diagonal_round, double_rounds, block_word}
use Rattle.value_cipher.specs.Cipher.{pad_of}
use Rattle.value_cipher.proofs.laws.vectors.Goals as goal

pub returns-clause-quarter_round : goal.returns-clause-quarter_round
unfolding quarter_round
returns-clause-quarter_round c = refl

pub returns-clause-block : goal.returns-clause-block
unfolding block_word double_rounds diagonal_round column_round quarter_round_at quarter_round
returns-clause-block c = refl

pub returns-clause-zero_pad : goal.returns-clause-zero_pad
unfolding pad_of block_word double_rounds diagonal_round column_round quarter_round_at quarter_round
returns-clause-zero_pad c = refl
