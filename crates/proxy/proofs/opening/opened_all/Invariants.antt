use Rattle.std.proofs.Common.{◌≡◌, map, take}
use Rattle.value_cipher.specs.Cipher.{unseal_of}
use Rattle.proxy.proofs.opening.opened_all.Given as goal

abbrev pub invariant-bodies : goal.invariant-bodies
invariant-bodies l = record { values : l.values.items ≡ map (unseal_of l.fn.pads) (take l.i l.bodies); stays : l.pads ≡ l.fn.pads }
