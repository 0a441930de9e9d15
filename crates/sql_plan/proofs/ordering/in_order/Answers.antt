use Rattle.std.proofs.Common.{◌∙◌, rules}
use Rattle.workload.proofs.StableSort.{ordered-from_sort_by}
use Rattle.sql_plan.specs.Walks.{up_to}
use Rattle.sql_plan.proofs.EntryOrder.{up_to-order, ordered-is-sorted}
use Rattle.sql_plan.proofs.ordering.in_order.Goals as goal

pub returns : goal.returns
returns c =
    ordered-from_sort_by up_to up_to-order c.args.entries.items c.sort_by.new.self.items c.in_ok-sort_by.ensures.sorted c.sort_by.ensures.stable (λ a r next called. search rules)
    ∙ ordered-is-sorted c.args.entries.items
