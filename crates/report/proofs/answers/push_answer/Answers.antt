use Rattle.workload.specs.Report.{answer_lines, line, numbered}
use Rattle.report.proofs.answers.push_answer.Goals as goal

pub returns-in-Inserted : goal.returns-in-Inserted
unfolding answer_lines line
returns-in-Inserted c = rw c.in-Inserted.is c.push_bytes.ensures

pub returns-in-Deleted : goal.returns-in-Deleted
unfolding answer_lines line numbered
returns-in-Deleted c = rw c.in-Deleted.is c.push_numbered_line.ensures

pub returns-in-Count : goal.returns-in-Count
unfolding answer_lines line numbered
returns-in-Count c = rw c.in-Count.is c.push_numbered_line-in-Count.ensures

pub returns-in-Min : goal.returns-in-Min
unfolding answer_lines
returns-in-Min c = rw c.in-Min.is c.push_value_or_none.ensures

pub returns-in-Max : goal.returns-in-Max
unfolding answer_lines
returns-in-Max c = rw c.in-Max.is c.push_value_or_none-in-Max.ensures

pub returns-in-Rows : goal.returns-in-Rows
returns-in-Rows c = rw c.in-Rows.is (rw c.as_slice.ensures at c.push_rows.ensures)
