use Rattle.std.proofs.Common.{◌≡◌, subst, sym, All, List}
use Rattle.std.proofs.lemmas.List.Elements.{All-replicate}
use Rattle.value_cipher.specs.Cipher.{pad_of}
use Rattle.proxy.specs.declared.pads.KeptPad.{KeptPad}
use Rattle.proxy.proofs.pads.Pads.reserve.Goals as goal

pub invariant_of-self : goal.invariant_of-self
invariant_of-self c =
    subst (λ (l : List KeptPad). All (λ (k : KeptPad). k.pad ≡ pad_of c.self.inside.key.bytes k.nonce) l) (sym c.in_ok-self-inside.ensures)
    (All-replicate (λ (k : KeptPad). k.pad ≡ pad_of c.self.inside.key.bytes k.nonce) 4096 (record { nonce = 0; pad = c.pad.result }) c.pad.ensures)
