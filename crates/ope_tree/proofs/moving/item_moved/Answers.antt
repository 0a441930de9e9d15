use Rattle.std.proofs.Common.{◌∙◌, sym}
use Rattle.path_code.specs.Ways.{way}
use Rattle.ope_tree.specs.Nodes.{tree_of}
use Rattle.ope_tree.proofs.MovedCodes.{pushed_after_long}
use Rattle.ope_tree.proofs.moving.item_moved.Goals as goal

pub differing-requires : goal.differing-requires
differing-requires c =
    let t = tree_of c.args.nodes.now c.args.right in
    pushed_after_long c.new-before.result.items c.push.new.self.items c.push_codes.new.codes.items c.deref.result.now c.code.result (way c.child.result) t c.new-before.ensures.items c.in_ok-push.ensures.items c.in_ok-push_codes.ensures c.deref.ensures.value
    ∙ sym (pushed_after_long c.new-after.result.items c.push-2.new.self.items c.push_codes-2.new.codes.items c.deref-2.result.now c.code-2.result (way c.args.path) t c.new-after.ensures.items c.in_ok-push-2.ensures.items c.in_ok-push_codes-2.ensures c.deref-2.ensures.value)
