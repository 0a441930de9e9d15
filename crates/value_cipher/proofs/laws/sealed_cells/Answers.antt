use Rattle.value_cipher.proofs.CipherLemmas.{unseal_of-sealed, nonce-sealed, masked-sealed-lt}
use Rattle.value_cipher.proofs.laws.sealed_cells.Goals as goal

pub returns : goal.returns
returns c = record { value = unseal_of-sealed; nonce = nonce-sealed; masked = masked-sealed-lt }
