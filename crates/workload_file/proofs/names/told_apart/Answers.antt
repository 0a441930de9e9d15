use Rattle.workload_file.proofs.NamingLemmas.{told_all}
use Rattle.workload_file.proofs.names.told_apart.Goals as goal

pub returns-clause-same : goal.returns-clause-same
returns-clause-same c = told_all c.with_more.result c.new.result c.args.names.now c.new.ensures c.with_more.ensures
