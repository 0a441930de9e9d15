use Rattle.command_words.proofs.OrderLemmas.{words-same}
use Rattle.command_words.proofs.laws.words_have_one_order.Goals as goal

pub returns : goal.returns
returns c = words-same
