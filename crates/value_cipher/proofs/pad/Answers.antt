use Rattle.std.proofs.Common.{arith}
use Rattle.value_cipher.proofs.BlockLemmas.{pad_of-words}
use Rattle.value_cipher.proofs.pad.Goals as goal

pub returns : goal.returns
returns c =
    let words = pad_of-words c.args.key.now.bytes c.args.nonce c.next_word.result c.next_word-2.result _ _ _ _
    c.from_seed-stream.ensures c.set_stream.ensures c.next_word.ensures c.next_word-2.ensures in
    omega arith
