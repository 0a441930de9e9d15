use Rattle.std.proofs.Common.{◌≡◌, ◌++◌, drop}
use Rattle.std.specs.List.{flat_map}
use Rattle.report.specs.ViewText.{exchange_lines}
use Rattle.report.proofs.exchanges.push_exchanges.Given as goal

abbrev pub invariant-exchanges : goal.invariant-exchanges
invariant-exchanges l = l.text.items ++ flat_map exchange_lines (drop l.exchange-index l.log) ≡ l.fn.text.items ++ flat_map exchange_lines l.log
