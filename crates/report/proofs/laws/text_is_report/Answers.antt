use Rattle.report.proofs.ReportLaws.{text-report}
use Rattle.report.proofs.laws.text_is_report.Goals as goal

pub returns : goal.returns
returns c = text-report
