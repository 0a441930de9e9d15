use Rattle.std.proofs.Common.{◌≡◌, ◌+◌, ◌++◌, map, drop}
use Rattle.value_cipher.specs.Cipher.{sealed}
use Rattle.proxy.specs.Client.{cells_from}
use Rattle.proxy.specs.Standing.{setting_by}
use Rattle.proxy.proofs.sending.sealed_row.Given as goal

abbrev pub invariant-values : goal.invariant-values
invariant-values l = record {
  bodies : map (sealed l.fn.pads) (cells_from (setting_by l.fn.pads l.first l.session) l.count l.values) ≡ l.bodies.items ++ map (sealed l.fn.pads) (cells_from (setting_by l.fn.pads l.first l.session) (l.count + l.i) (drop l.i l.values));
  stays : l.pads ≡ l.fn.pads;
}
