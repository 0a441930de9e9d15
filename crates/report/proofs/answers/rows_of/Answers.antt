use Rattle.std.proofs.Common.{refl, sym, length}
use Rattle.std.proofs.Math.Nat.{div-zero}
use Rattle.workload.specs.Report.{row_count}
use Rattle.report.proofs.answers.rows_of.Goals as goal

pub returns-then-width-eq0-clause-is : goal.returns-then-width-eq0-clause-is
unfolding row_count
returns-then-width-eq0-clause-is c = rw c.if-width-eq0.true (sym (div-zero (length c.args.values.now)))

pub returns-else-width-eq0-clause-is : goal.returns-else-width-eq0-clause-is
unfolding row_count
returns-else-width-eq0-clause-is c = refl
