use Rattle.workload_file.proofs.NamingLemmas.{no_names}
use Rattle.workload_file.proofs.names.Names.new.Goals as goal

pub returns : goal.returns
returns c = no_names c.new.result.keys c.new.ensures.len
