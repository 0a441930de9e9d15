use Rattle.ope_tree.proofs.Links.{pushed_fits}
use Rattle.ope_tree.proofs.arena.Arena.push.Goals as goal

pub invariant_of-self : goal.invariant_of-self
invariant_of-self c = pushed_fits c.self.inside.nodes c.push.new.self c.args.self.now c.args.node c.push.result c.self.view_is c.self.invariant c.requires c.push.ensures.ok c.push.ensures.err
