use Rattle.std.proofs.Common.{◌≡◌, ◌+◌, ◌≤◌, drop}
use Rattle.report.specs.SummaryText.{ended_so}
use Rattle.report.proofs.summary_lines.count_ended.Given as goal

-- those counted and those that are left make all; no more are counted than were seen
abbrev pub invariant-transactions : goal.invariant-transactions
invariant-transactions l = record {
  counted : l.count + ended_so l.name (drop l.t-index l.txns) ≡ ended_so l.name l.txns;
  few : l.count ≤ l.t-index;
}
