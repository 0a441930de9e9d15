use Rattle.command_words.proofs.OrderLemmas.{key_read}
use Rattle.command_words.proofs.order.key_in.Goals as goal

pub returns : goal.returns
returns c = key_read c.args.word c.in_ok-word.field-0 c.as_bytes.result.now c.from_hex.result c.in_ok-word.was c.as_bytes.ensures.value c.from_hex.ensures.found c.from_hex.ensures.value
