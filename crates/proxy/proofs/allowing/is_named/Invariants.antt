use Rattle.std.proofs.Common.{◌≡◌, map}
use Rattle.workload.specs.Run.{names}
use Rattle.workload.specs.Transaction.{table_named}
use Rattle.proxy.proofs.NamedLemmas.{named_from}
use Rattle.proxy.proofs.allowing.is_named.Given as goal

abbrev pub invariant-acts : goal.invariant-acts
invariant-acts l = named_from l.acts l.i l.table ≡ names (map table_named l.acts) l.table
