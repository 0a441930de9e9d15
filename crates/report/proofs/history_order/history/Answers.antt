use Rattle.std.proofs.Common.{◌∙◌, ap, rules}
use Rattle.workload.specs.Selection.{ordered}
use Rattle.workload.specs.History.{comes_before, history_of}
use Rattle.workload.proofs.StableSort.{ordered-from_sort_by}
use Rattle.report.proofs.HistoryOrder.{history-order}
use Rattle.report.proofs.history_order.history.Goals as goal

pub returns : goal.returns
unfolding history_of
returns c =
    c.from_vec.ensures
    ∙ ordered-from_sort_by comes_before history-order c.into_vec-sorted.result.items c.sort_by.new.self.items
    c.in_ok-sort_by.ensures.sorted c.sort_by.ensures.stable (λ a r next called. search rules)
    ∙ ap (λ l. ordered comes_before l) c.into_vec-sorted.ensures
