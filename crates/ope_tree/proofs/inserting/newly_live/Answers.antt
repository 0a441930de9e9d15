use Rattle.std.proofs.Common.{[], arith}
use Rattle.tree_model.specs.Items.{one_more}
use Rattle.tree_model.proofs.LiveItems.{live-yes, live-no, live-nil}
use Rattle.mope_base.specs.declared.body.Body.{Body}
use Rattle.ope_tree.specs.Nodes.{item_of}
use Rattle.ope_tree.proofs.inserting.newly_live.Goals as goal

pub returns-then-entry-eq0-clause-live : goal.returns-then-entry-eq0-clause-live
unfolding item_of one_more
returns-then-entry-eq0-clause-live c =
    let x = item_of c.args.entry in
    let more = live-yes (one_more x) [] (omega arith) in
    let none = live-no x [] (omega arith) in
    let nothing = live-nil Body in
    omega arith

pub returns-else-entry-eq0-clause-live : goal.returns-else-entry-eq0-clause-live
unfolding item_of one_more
returns-else-entry-eq0-clause-live c =
    let x = item_of c.args.entry in
    let more = live-yes (one_more x) [] (omega arith) in
    let some = live-yes x [] (omega arith) in
    let nothing = live-nil Body in
    omega arith
