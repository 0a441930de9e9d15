use Rattle.std.proofs.Common.{refl, sym, ◌∙◌}
use Rattle.hex.proofs.HexLemmas.{IsOk-decode_sized}
use Rattle.value_cipher.proofs.Key.from_hex.Goals as goal

pub returns-in-Ok-clause-found : goal.returns-in-Ok-clause-found
returns-in-Ok-clause-found c =
    let digits = IsOk-decode_sized c.args.text.now 32 in
    let decoded = sym c.from_hex.ensures ∙ c.in-Ok.is in
    (λ _. digits.0 (rw decoded refl), λ _. refl)

pub returns-in-Err-clause-found : goal.returns-in-Err-clause-found
returns-in-Err-clause-found c =
    let digits = IsOk-decode_sized c.args.text.now 32 in
    let decoded = sym c.from_hex.ensures ∙ c.in-Err.is in
    (λ impossible. cc impossible, λ spelled. rw decoded at (digits.1 spelled))
