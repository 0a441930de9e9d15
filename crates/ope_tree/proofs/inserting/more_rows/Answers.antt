use Rattle.std.proofs.Common.{◌≡◌, ◌+◌, ℕ, suc, ap, arith}
use Rattle.tree_model.specs.Items.{Item, one_more}
use Rattle.mope_base.specs.declared.body.Body.{Body}
use Rattle.ope_tree.specs.Nodes.{item_of}
use Rattle.ope_tree.proofs.inserting.more_rows.Goals as goal

pub returns : goal.returns
unfolding item_of one_more
returns c =
    let next : c.args.entry.count + 1 ≡ suc c.args.entry.count = omega arith in
    ap (λ (n : ℕ). let i : Item Body = record { body = c.args.entry.body; count = n } in i) next
