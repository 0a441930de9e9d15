use Rattle.report.proofs.ReportLaws.{plain_text-report}
use Rattle.report.proofs.laws.plain_text_is_report.Goals as goal

pub returns : goal.returns
returns c = plain_text-report
