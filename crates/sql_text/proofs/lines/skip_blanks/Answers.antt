use Rattle.std.proofs.Common.{◌∙◌, arith, sym}
use Rattle.sql_text.proofs.Driving.{blank_step}
use Rattle.sql_text.proofs.lines.skip_blanks.Goals as goal

pub blanks-preserved : goal.blanks-preserved
blanks-preserved c = record {
  from = omega arith;
  within = omega arith;
  same = c.blanks.invariant.same ∙ blank_step c.args.line.now c.blanks.at c.blanks-test.true (sym c.is_blank.ensures ∙ c.if-not-is_blank.false);
}
