use Rattle.value_cipher.proofs.CipherLemmas.{unseal_of-seal_of, seal_of-unseal_of}
use Rattle.value_cipher.proofs.laws.seal_and_unseal.Goals as goal

pub returns : goal.returns
returns c = record { unseal = unseal_of-seal_of; seal = seal_of-unseal_of }
