use Rattle.report.proofs.RowLines.{row_step, rows_end, row_fits, rows_fit}
use Rattle.report.proofs.answers.push_row_lines.Goals as goal

pub split_at-requires : goal.split_at-requires
split_at-requires c = row_fits c.rows.more c.args.width _ c.rows-test.true c.rows.invariant.fit

pub rows-preserved : goal.rows-preserved
rows-preserved c = record {
  text = row_step c.rows.text.items c.push_row.new.text.items _ c.rows.more c.args.width c.rows.left.now _ _ c.rows-test.true c.split_at.ensures.front c.split_at.ensures.back c.in_ok-push_row.ensures c.rows.invariant.text;
  fit = rows_fit c.rows.more c.args.width _ _ c.rows-test.true c.rows.invariant.fit c.split_at.ensures.back_len;
}

pub returns : goal.returns
returns c = rows_end _ _ c.rows.more c.args.width c.rows.left.now c.rows-test.false c.rows.invariant.text
