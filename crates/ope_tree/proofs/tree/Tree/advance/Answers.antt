use Rattle.std.proofs.Common.{[], ◌∷◌, ◌++◌, sym, subst}
use Rattle.ope_tree.specs.Cursors.{ArrivesAt, IsCursorAt, arrival_of}
use Rattle.ope_tree.specs.Seen.{Seen}
use Rattle.ope_tree.specs.declared.cursors.Arrival.{Arrival}
use Rattle.ope_tree.proofs.Advancing.{advanced, cursor-few}
use Rattle.ope_tree.proofs.Stopping.{named_within}
use Rattle.ope_tree.proofs.tree.Tree.advance.Goals as goal

pub onward-spot-requires-clause-is_node : goal.onward-spot-requires-clause-is_node
onward-spot-requires-clause-is_node c =
    let t = c.self.inside in
    let way = c.requires.0 in
    let P : Seen → Type 0 = λ seen. IsCursorAt seen way c.args.cursor in
    let is = subst P (sym c.self.view_is) c.requires.1 in
    named_within t.nodes t.shape.root way c.args.cursor.at.0 is.named

pub onward-spot-requires-clause-few : goal.onward-spot-requires-clause-few
onward-spot-requires-clause-few c =
    let t = c.self.inside in
    let way = c.requires.0 in
    let P : Seen → Type 0 = λ seen. IsCursorAt seen way c.args.cursor in
    cursor-few t.nodes t.shape.root t.shape.alive t.shape.most t.spent way c.args.cursor c.self.invariant (subst P (sym c.self.view_is) c.requires.1)

pub returns : goal.returns
returns c = λ way is.
    let t = c.self.inside in
    let stop = c.stop_of.result in
    let spot = c.onward-spot.result in
    let longer = way ++ c.args.side ∷ [] in
    let P : Seen → Type 0 = λ seen. IsCursorAt seen way c.args.cursor in
    let Q : Seen → Type 0 = λ seen. ArrivesAt seen longer (arrival_of stop spot.before) in
    let R : Arrival → Type 0 = λ arrival. ArrivesAt c.args.self.now longer arrival in
    let here = advanced t.nodes t.shape.root t.shape.most t.spent way c.args.cursor c.args.side spot.link spot.before stop (subst P (sym c.self.view_is) is) c.onward-spot.ensures c.stop_of.ensures in
    subst R (sym c.arrival_of.ensures) (subst Q c.self.view_is here)
