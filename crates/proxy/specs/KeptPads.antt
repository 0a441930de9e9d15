-- The pads that a client keeps.
use Rattle.std.specs.Prelude.{◌≡◌, ℕ, List, All}
use Rattle.value_cipher.specs.Cipher.{pad_of}
use Rattle.proxy.specs.declared.pads.KeptPad.{KeptPad}

-- each kept pad is that of its nonce
abbrev pub AreRight : List ℕ → List KeptPad → Type 0
AreRight key kept = All (λ (k : KeptPad). k.pad ≡ pad_of key k.nonce) kept
