use Rattle.std.proofs.Common.{sym, ◌∙◌}
use Rattle.workload_file.proofs.NamingLemmas.{place_key}
use Rattle.workload_file.proofs.names.Names.number_of.Goals as goal

pub returns-in-Some : goal.returns-in-Some
returns-in-Some c =
    sym c.in-Some.is ∙ c.get_index_of.ensures.index
    ∙ place_key c.self.inside.set.keys c.args.name.now c.as_slice.result.now c.args.self.now c.self.view_is c.as_slice.ensures

pub returns-in-None : goal.returns-in-None
returns-in-None c =
    sym c.in-None.is ∙ c.get_index_of.ensures.index
    ∙ place_key c.self.inside.set.keys c.args.name.now c.as_slice.result.now c.args.self.now c.self.view_is c.as_slice.ensures
