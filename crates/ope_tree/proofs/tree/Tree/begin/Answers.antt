use Rattle.std.proofs.Common.{[], sym, subst}
use Rattle.ope_tree.specs.Cursors.{ArrivesAt, arrival_of}
use Rattle.ope_tree.specs.Seen.{Seen}
use Rattle.ope_tree.specs.declared.cursors.Arrival.{Arrival}
use Rattle.ope_tree.proofs.Advancing.{begun}
use Rattle.ope_tree.proofs.tree.Tree.begin.Goals as goal

pub returns : goal.returns
returns c =
    let t = c.self.inside in
    let stop = c.stop_of.result in
    let P : Seen → Type 0 = λ seen. ArrivesAt seen [] (arrival_of stop 0) in
    let Q : Arrival → Type 0 = λ arrival. ArrivesAt c.args.self.now [] arrival in
    subst Q (sym c.arrival_of.ensures) (subst P c.self.view_is (begun t.nodes t.shape.root t.shape.most t.spent stop c.self.invariant.is_link c.stop_of.ensures))
