use Rattle.ope_tree.proofs.Links.{read_run}
use Rattle.ope_tree.proofs.arena.Arena.get.Goals as goal

pub returns : goal.returns
returns c = read_run c.self.inside.nodes c.args.self.now c.run_at.result.now c.args.at _ c.self.view_is c.self.invariant c.requires c.run_at.ensures.run c.run_at.ensures.some
