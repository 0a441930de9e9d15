-- The text of the turns and the history of a run is its report.
use Rattle.std.proofs.Common.{refl, append-nil}
use Rattle.workload.specs.Run.{run, turns_taken}
use Rattle.workload.specs.History.{history}
use Rattle.workload.specs.Report.{plain_report_of, plain_report, report}
use Rattle.report.specs.WholeText.{nonce_line, plain_text, text_of}
use Rattle.report.specs.Laws.{PlainTextIsReport, TextIsReport}

pub text-report : TextIsReport
unfolding plain_report_of plain_report report nonce_line plain_text text_of
text-report first w turns = refl

pub plain_text-report : PlainTextIsReport
unfolding plain_report_of plain_report nonce_line plain_text text_of
plain_text-report w turns = append-nil (plain_text w (turns_taken (run w turns)) (history (run w turns)))
