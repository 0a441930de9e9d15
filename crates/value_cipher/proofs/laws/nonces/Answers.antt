use Rattle.value_cipher.proofs.CipherLemmas.{nonce_at-distinct, nonce_at-within}
use Rattle.value_cipher.proofs.laws.nonces.Goals as goal

pub returns : goal.returns
returns c = record { distinct = nonce_at-distinct; within = nonce_at-within }
