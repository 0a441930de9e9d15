use Rattle.std.proofs.Common.{rules, ◌≡◌, ltb, filter, ap, ◌∙◌}
use Rattle.ope_tree.specs.declared.nodes.Entry.{Entry}
use Rattle.ope_tree.specs.Nodes.{items_of_entries}
use Rattle.ope_tree.proofs.RowLists.{live-chain}
use Rattle.ope_tree.proofs.sweeping.live_entries.Goals as goal

pub returns : goal.returns
returns c =
    let e : c.in_ok-kept.kept.items ≡ filter (λ (e : Entry). ltb 0 e.count) c.args.entries.now = search rules in
    ap items_of_entries e ∙ live-chain c.args.entries.now
