-- What the text is of the turns and the history of a run.
use Rattle.std.specs.Prelude.{◌≡◌, ℕ, List, Some, None}
use Rattle.mope_base.specs.declared.numbers.SessionNo.{SessionNo}
use Rattle.workload.specs.declared.script.Workload.{Workload}
use Rattle.workload.specs.Run.{run, turns_taken}
use Rattle.workload.specs.History.{history}
use Rattle.workload.specs.Report.{next_free_nonce, plain_report, report}
use Rattle.report.specs.WholeText.{text_of}

-- with the next free nonce it is the report
abbrev pub TextIsReport : Type 0
TextIsReport =
    (first : ℕ) (w : Workload) (turns : List SessionNo)
    → text_of w (turns_taken (run w turns)) (history (run w turns)) (Some (next_free_nonce first w)) ≡ report first w turns

-- without it, the report before the line of the nonce
abbrev pub PlainTextIsReport : Type 0
PlainTextIsReport =
    (w : Workload) (turns : List SessionNo)
    → text_of w (turns_taken (run w turns)) (history (run w turns)) None ≡ plain_report w turns
