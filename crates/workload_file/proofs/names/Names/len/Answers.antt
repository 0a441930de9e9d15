use Rattle.std.proofs.Common.{◌∙◌}
use Rattle.workload_file.proofs.NamingLemmas.{count_names, few_names}
use Rattle.workload_file.proofs.names.Names.len.Goals as goal

pub returns-clause-count : goal.returns-clause-count
returns-clause-count c = c.len.ensures.len ∙ count_names c.self.inside.set.keys c.args.self.now c.self.view_is

pub returns-clause-few : goal.returns-clause-few
returns-clause-few c = few_names c.self.inside.set.keys c.args.self.now c.self.view_is c.self.invariant
